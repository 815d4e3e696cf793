use Rattle.std.proofs.Common.{◌≡◌, ◌++◌, map, take}
use Rattle.board_chips.specs.Planning.{string_by}
use Rattle.board_chips.proofs.planning.add_strings.Given as goal

-- the strings so far
abbrev pub invariant-loop-string : goal.invariant-loop-string
invariant-loop-string l = l.all.items ≡ l.initial.all.items ++ map (string_by l.place l.cells l.nets l.pins) (take l.string-index l.strings)
