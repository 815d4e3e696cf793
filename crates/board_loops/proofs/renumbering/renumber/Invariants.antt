use Rattle.std.proofs.Common.{take}
use Rattle.board_loops.specs.Renumbering.{AreRenumbered}
use Rattle.board_loops.proofs.renumbering.renumber.Given as goal

-- the strings so far
abbrev pub invariant-loop-string : goal.invariant-loop-string
invariant-loop-string l = AreRenumbered (take l.string-index l.strings) l.nets l.all.items
