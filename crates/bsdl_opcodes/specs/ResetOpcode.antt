-- The opcode that a reset loads (IEEE Std 1149.1-2001, 7.2.1), and whether it names IDCODE.
use Rattle.std.specs.Prelude.{Bool, true, List, [], Option, Some, None}
use Rattle.std.specs.Prelude.{option_map, unwrap_or, bytes_eq, codes}
use Rattle.bsdl_text.specs.Words.{upper}
use Rattle.bsdl_device.specs.Device.{Opcode}
use Rattle.bsdl_device.specs.Opcodes.{idcode_opcode, named_instruction, x_as_0}
use Rattle.bsdl_values.specs.InstructionValues.{OpcodeRow}

abbrev pub opcode : OpcodeRow → Opcode
opcode r = record { name = upper r.name.text; patterns = r.patterns }

-- the opcode that a reset loads: the first of IDCODE's row, X as 0
abbrev pub reset_opcode : List Opcode → Option (List Bool)
reset_opcode opcodes = option_map x_as_0 (idcode_opcode opcodes)

-- where there is one, it names IDCODE
abbrev pub names_idcode : List Opcode → Option (List Bool) → Bool
names_idcode opcodes None = true
names_idcode opcodes (Some latch) = bytes_eq (unwrap_or (named_instruction opcodes latch) []) (codes "IDCODE")

abbrev pub resets_to_idcode : List Opcode → Bool
resets_to_idcode opcodes = names_idcode opcodes (reset_opcode opcodes)
