-- What values of the code stand for.
use Rattle.std.specs.Prelude.{ℕ, List, option_map, map}
use Rattle.bsdl_text.specs.Words.{upper}
use Rattle.bsdl_text.specs.NumberView.{value}
use Rattle.bsdl_text.specs.WordView.{word_lexeme}
use Rattle.bsdl_values.specs.declared.instructions.patterns.WrittenPattern as declared_pattern
use Rattle.bsdl_values.specs.declared.instructions.names.OpcodeRow as declared_opcodes
use Rattle.bsdl_values.specs.declared.instructions.names.PrivateName as declared_private
use Rattle.bsdl_values.specs.declared.instructions.names.Instr as declared_instr
use Rattle.bsdl_values.specs.declared.instructions.names.AccessRow as declared_access
use Rattle.bsdl_device.specs.Device.{Name, Pattern}
use Rattle.bsdl_values.specs.InstructionValues.{pattern_of, OpcodeRow, Instr, AccessRow}

abbrev pub pattern : declared_pattern.WrittenPattern → Pattern
pattern p = pattern_of p.digits.items

-- each by its digits
abbrev pub patterns : List (List ℕ) → List Pattern
patterns digits = map pattern_of digits

abbrev pub opcode_row : declared_opcodes.OpcodeRow → OpcodeRow
opcode_row r = record { name = word_lexeme r.name; patterns = patterns r.patterns }

abbrev pub private_name : declared_private.PrivateName → Name
private_name p = upper p.name.text.now

abbrev pub instr : declared_instr.Instr → Instr
instr i = record { name = word_lexeme i.name; captures = option_map (λ b. pattern b.value) i.captures }

abbrev pub access_row : declared_access.AccessRow → AccessRow
access_row r =
    record { register = upper r.register.text.now; len = option_map value r.len; instrs = map instr r.instrs.items }
