use Rattle.std.proofs.Common.{◌≡◌, ℕ, List, map, take}
use Rattle.std.specs.BTreeSet.{contains_by}
use Rattle.name_keys.specs.Keys.{key_order}
use Rattle.bsdl_values.specs.InstructionView.{opcode_row}
use Rattle.bsdl_opcodes.specs.NameSets.{opcode_named}
use Rattle.bsdl_opcodes.proofs.own.opcode_names.Given as goal

abbrev pub invariant-loop-row : goal.invariant-loop-row
invariant-loop-row l = (q : List ℕ) → contains_by (key_order q) l.names ≡ opcode_named (map opcode_row (take l.row-index l.rows)) q
