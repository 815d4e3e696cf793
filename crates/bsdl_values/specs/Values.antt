-- What the attributes of an entity say (IEEE Std 1149.1-2001, Annex B.8.9 to B.8.14).
use Rattle.std.specs.Prelude.{ℕ, if◌then◌else◌, List, [], ◌∷◌}
use Rattle.bsdl_text.specs.Cutting.{Lexeme}
use Rattle.bsdl_text.specs.Reading.{Read, fits, ◌>>=◌, meant, joined_text, keyword, number, quoted_value}
use Rattle.bsdl_device.specs.Device.{Name, Pattern}
use Rattle.bsdl_values.specs.CellRows.{CellRow, cell_row}
use Rattle.bsdl_values.specs.InstructionValues.{rows, pattern, OpcodeRow, opcode_row, private_name, AccessRow}
use Rattle.bsdl_values.specs.InstructionValues.{access_row}
use Rattle.bsdl_values.specs.declared.values.Language.{Language}
use Rattle.bsdl_values.specs.declared.values.Language.TheVariants.{Opcodes, Capture, Cells, Codes, PrivateNames}
use Rattle.bsdl_values.specs.declared.values.Language.TheVariants.{Accesses}
use Rattle.bsdl_values.specs.declared.Attribute.{Attribute}
use Rattle.bsdl_values.specs.declared.Attribute.TheVariants.{TapScanIn, TapScanOut, TapScanMode, TapScanClock}
use Rattle.bsdl_values.specs.declared.Attribute.TheVariants.{TapScanReset, InstructionLength, BoundaryLength}
use Rattle.bsdl_values.specs.declared.Attribute.TheVariants.{InstructionOpcode, InstructionCapture, BoundaryRegister}
use Rattle.bsdl_values.specs.declared.Attribute.TheVariants.{IdcodeRegister, UsercodeRegister, InstructionPrivate}
use Rattle.bsdl_values.specs.declared.Attribute.TheVariants.{RegisterAccess}
use Rattle.bsdl_values.specs.Keywords.{truth_of}
use Rattle.bsdl_values.specs.Passing.{brackets}

-- What an attribute's value says. That of a TAP port names it; `false` counts as if the attribute were absent. Values
-- that are lists of names keep where their text begins.
pub data Value : Type 0 where
  port : Name → Value
  absent : Value
  count : ℕ → Value
  pattern_value : Pattern → Value
  codes_value : List Pattern → Value
  names_value : List Name → Value
  opcodes_value : ℕ → List OpcodeRow → Value
  accesses_value : ℕ → List AccessRow → Value
  cells_value : List CellRow → Value

-- where the first of these tokens stands
abbrev pub first_start : List Lexeme → ℕ
first_start [] = 0
first_start (t ∷ ts) = t.start

-- a string, or several joined by `&`, of a text that says something; else its first quote does not fit
abbrev pub quoted : {A : Type 0} → (List Lexeme → Read A) → List Lexeme → Read A
quoted item ts = joined_text ts >>= λ text rest. meant (quoted_value item text) (first_start ts) rest

abbrev pub truth : Name → List Lexeme → Read Value
truth name ts = keyword truth_of ts >>= λ b a. fits (if b then port name else absent) a

abbrev pub length_value : List Lexeme → Read Value
length_value ts = number ts >>= λ n a. fits (count n) a

-- the value of a text in each language
abbrev pub text_in : Language → List Lexeme → Read Value
text_in Opcodes ts = quoted (rows opcode_row) ts >>= λ v a. fits (opcodes_value (first_start ts) v) a
text_in Capture ts = quoted pattern ts >>= λ v a. fits (pattern_value v) a
text_in Cells ts = quoted (rows cell_row) ts >>= λ v a. fits (cells_value v) a
text_in Codes ts = quoted (rows pattern) ts >>= λ v a. fits (codes_value v) a
text_in PrivateNames ts = quoted (rows private_name) ts >>= λ v a. fits (names_value v) a
text_in Accesses ts = quoted (rows access_row) ts >>= λ v a. fits (accesses_value (first_start ts) v) a

-- the value of an attribute of this name
abbrev pub value_of : Attribute → Name → List Lexeme → Read Value
value_of TapScanIn name ts = truth name ts
value_of TapScanOut name ts = truth name ts
value_of TapScanMode name ts = truth name ts
value_of TapScanReset name ts = truth name ts
value_of TapScanClock name ts = brackets ts >>= λ b a. fits (port name) a
value_of InstructionLength name ts = length_value ts
value_of BoundaryLength name ts = length_value ts
value_of InstructionOpcode name ts = text_in Opcodes ts
value_of InstructionCapture name ts = text_in Capture ts
value_of BoundaryRegister name ts = text_in Cells ts
value_of IdcodeRegister name ts = text_in Codes ts
value_of UsercodeRegister name ts = text_in Codes ts
value_of InstructionPrivate name ts = text_in PrivateNames ts
value_of RegisterAccess name ts = text_in Accesses ts
