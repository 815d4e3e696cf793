-- Sets of names, and rows that are left with own instructions.
use Rattle.std.specs.Prelude.{ℕ, Bool, nat_lt, ◌&&◌, not, List, length, filter, bytes_eq}
use Rattle.std.specs.List.{list_any}
use Rattle.bsdl_opcodes.specs.Own.{standard_names}
use Rattle.bsdl_text.specs.Words.{is_among}
use Rattle.bsdl_text.specs.Words.{upper}
use Rattle.bsdl_values.specs.InstructionValues.{OpcodeRow, Instr, AccessRow}
use Rattle.bsdl_device.specs.Device.{Name}

-- an instruction of this name, in upper case, has an opcode
abbrev pub opcode_named : List OpcodeRow → List ℕ → Bool
opcode_named rows q = list_any (λ r. bytes_eq (upper r.name.text) q) rows

-- an instruction of this name is private
abbrev pub private_named : List Name → List ℕ → Bool
private_named names q = list_any (λ n. bytes_eq n q) names

-- an instruction of the device's own, by which names have opcodes and which are private
abbrev pub is_own_by : (List ℕ → Bool) → (List ℕ → Bool) → List ℕ → Bool
is_own_by with_opcode private name =
    with_opcode (upper name) && (not (is_among standard_names (upper name)) && not (private (upper name)))

-- a row with its own instructions alone, and whether one is left
abbrev pub row_with : (Instr → Bool) → AccessRow → AccessRow
row_with own row = record row { instrs = filter own row.instrs }

abbrev pub has_some : AccessRow → Bool
has_some row = nat_lt 0 (length row.instrs)
