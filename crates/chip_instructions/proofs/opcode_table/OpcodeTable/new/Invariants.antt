use Rattle.std.proofs.Common.{◌≡◌, Bool, List, length, take}
use Rattle.std.specs.List.{position}
use Rattle.bsdl_device.specs.Opcodes.{names_it}
use Rattle.chip_instructions.specs.OpcodeTable.{IsRising, row_in}
use Rattle.chip_instructions.proofs.opcode_table.OpcodeTable.new.Given as goal

abbrev pub invariant-loop-number : goal.invariant-loop-number
invariant-loop-number l = record {
  rising : IsRising 0 l.table.with_x.items l.number;
  found : (code : List Bool) → length code ≡ l.code_length → row_in l.table code ≡ position (names_it code) (take l.number l.rows);
}
