use Rattle.std.proofs.Common.{◌≡◌, drop}
use Rattle.std.specs.BTreeMap.{get}
use Rattle.bsdl_device.specs.Order.{bits_order}
use Rattle.chip_instructions.specs.OpcodeTable.{row_with_x}
use Rattle.chip_instructions.proofs.opcode_table.OpcodeTable.row.Given as goal

abbrev pub invariant-loop-opcode : goal.invariant-loop-opcode
invariant-loop-opcode l = record {
  exact : l.exact ≡ get bits_order l.self.by_code l.code;
  passed : row_with_x l.self.with_x.items l.code ≡ row_with_x (drop l.opcode-index l.self.with_x.items) l.code;
}
