use Rattle.std.proofs.Common.{◌≡◌, Bool, List, length, take, Some, None, if◌then◌else◌}
use Rattle.std.specs.List.{list_any}
use Rattle.std.specs.Option.{option_or}
use Rattle.bsdl_device.specs.Opcodes.{matches}
use Rattle.chip_instructions.specs.OpcodeTable.{IsRising, row_in}
use Rattle.chip_instructions.proofs.opcode_table.OpcodeTable.add_row.Given as goal

abbrev pub invariant-loop-pattern : goal.invariant-loop-pattern
invariant-loop-pattern l = record {
  rising : IsRising 0 l.self.with_x.items l.number;
  found :
      (code : List Bool) → length code ≡ l.code_length
      → row_in l.self code
      ≡ option_or (row_in l.initial.self code) (if list_any (λ p. matches p code) (take l.pattern-index l.row.patterns) then Some l.number else None);
}
