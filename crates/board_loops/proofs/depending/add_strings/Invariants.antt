use Rattle.std.proofs.Common.{◌≡◌, ◌++◌, map, take}
use Rattle.board_loops.specs.Depending.{dependency_by}
use Rattle.board_loops.proofs.depending.add_strings.Given as goal

-- the strings so far
abbrev pub invariant-loop-string : goal.invariant-loop-string
invariant-loop-string l = l.all.items ≡ l.initial.all.items ++ map (dependency_by l.table l.first l.cells) (take l.string-index l.strings)
