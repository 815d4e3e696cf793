use Rattle.std.proofs.Common.{◌++◌, List, map, take}
use Rattle.bsdl_device.specs.Device.{Name, Pattern}
use Rattle.board_description.specs.Opcodes.{Holds}
use Rattle.board_description.proofs.opcodes.Opcodes.add_row.Given as goal

abbrev pub invariant-loop-pattern : goal.invariant-loop-pattern
invariant-loop-pattern l =
    (names : List Name) (patterns : List Pattern) → Holds names patterns l.initial.self
    → Holds (names ++ map (λ p. l.row.name) (take l.pattern-index l.pattern-items)) (patterns ++ take l.pattern-index l.pattern-items) l.self
