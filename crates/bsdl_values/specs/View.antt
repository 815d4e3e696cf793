-- What the values of the code stand for.
use Rattle.std.specs.Prelude.{◌≡◌, ℕ, Bool, true, false, if◌then◌else◌, List, [], map, Option, Some, None}
use Rattle.std.specs.Prelude.{is_some, unwrap_or, Result, Ok, Err}
use Rattle.bsdl_text.specs.Left.{left}
use Rattle.bsdl_text.specs.Reading.{Read, fits, misfit, quoted_value}
use Rattle.bsdl_text.specs.View.{Stops}
use Rattle.bsdl_text.specs.Words.{upper}
use Rattle.bsdl_text.specs.NumberView.{value as number_value}
use Rattle.bsdl_text.specs.declared.reading.Stop.{Stop}
use Rattle.bsdl_text.specs.declared.tokens.Lexer.{Lexer}
use Rattle.bsdl_values.specs.InstructionValues.{rows, pattern, opcode_row, private_name, access_row}
use Rattle.bsdl_values.specs.InstructionView as seen
use Rattle.bsdl_values.specs.CellRows.{cell_row}
use Rattle.bsdl_values.specs.CellView as seen_cell
use Rattle.bsdl_values.specs.declared.values.Language.{Language}
use Rattle.bsdl_values.specs.declared.values.Language.TheVariants.{Opcodes, Capture, Cells, Codes, PrivateNames}
use Rattle.bsdl_values.specs.declared.values.Language.TheVariants.{Accesses}
use Rattle.bsdl_values.specs.declared.values.Quoted as declared_quoted
use Rattle.bsdl_values.specs.declared.values.Written as declared_written
use Rattle.bsdl_values.specs.declared.values.Written.TheVariants as as_written
use Rattle.bsdl_values.specs.declared.values.Value as declared_value
use Rattle.bsdl_values.specs.declared.values.Value.TheVariants as found
use Rattle.bsdl_values.specs.Values.{Value, port, absent, count, pattern_value, codes_value, names_value, opcodes_value}
use Rattle.bsdl_values.specs.Values.{accesses_value, cells_value}

abbrev pub value : declared_value.Value → Value
value (found.Port name) = port (upper name.text.now)
value found.Absent = absent
value (found.Count n) = count (number_value n)
value (found.Opcodes start rows) = opcodes_value start (map seen.opcode_row rows.items)
value (found.Capture p) = pattern_value (seen.pattern p)
value (found.Cells rows) = cells_value (map seen_cell.cell_row rows.items)
value (found.Codes ps) = codes_value (seen.patterns ps)
value (found.PrivateNames names) = names_value (map seen.private_name names.items)
value (found.Accesses start rows) = accesses_value start (map seen.access_row rows.items)

-- ---- values as they are written

-- a text of each language says something
abbrev pub says : Language → List ℕ → Bool
says Opcodes text = is_some (quoted_value (rows opcode_row) text)
says Capture text = is_some (quoted_value pattern text)
says Cells text = is_some (quoted_value (rows cell_row) text)
says Codes text = is_some (quoted_value (rows pattern) text)
says PrivateNames text = is_some (quoted_value (rows private_name) text)
says Accesses text = is_some (quoted_value (rows access_row) text)

-- what it says
abbrev pub text_value : Language → ℕ → List ℕ → Value
text_value Opcodes start text = opcodes_value start (unwrap_or (quoted_value (rows opcode_row) text) [])
text_value Capture start text = pattern_value (unwrap_or (quoted_value pattern text) [])
text_value Cells start text = cells_value (unwrap_or (quoted_value (rows cell_row) text) [])
text_value Codes start text = codes_value (unwrap_or (quoted_value (rows pattern) text) [])
text_value PrivateNames start text = names_value (unwrap_or (quoted_value (rows private_name) text) [])
text_value Accesses start text = accesses_value start (unwrap_or (quoted_value (rows access_row) text) [])

abbrev pub quoted : declared_quoted.Quoted → Value
quoted q = text_value q.language q.start q.text.items

-- the first quote of a text that says nothing
abbrev pub quoted_unsaid : declared_quoted.Quoted → Option ℕ
quoted_unsaid q = if says q.language q.text.items then None else Some q.start

abbrev pub written : declared_written.Written → Value
written (as_written.Port name) = port (upper name.text.now)
written as_written.Absent = absent
written (as_written.Count n) = count (number_value n)
written (as_written.Text q) = quoted q

abbrev pub unsaid : declared_written.Written → Option ℕ
unsaid (as_written.Text q) = quoted_unsaid q
unsaid _ = None

-- what a text says was found, or that it says nothing
abbrev pub TextSays : Option declared_value.Value → declared_quoted.Quoted → Type 0
TextSays None q = says q.language q.text.items ≡ false
TextSays (Some v) q = (says q.language q.text.items ≡ true) × (quoted q ≡ value v)

-- the same of what is written
abbrev pub Says : Result declared_value.Value ℕ → declared_written.Written → Type 0
Says (Ok v) w = (unsaid w ≡ None) × (written w ≡ value v)
Says (Err place) w = unsaid w ≡ Some place

-- ---- reading what is written

-- the first text that says nothing is where tokens do not fit, whatever stands behind it
abbrev pub judged : {A : Type 0} → Option ℕ → Read A → Read A
judged None r = r
judged (Some place) r = misfit (Some place)

-- what a reader answered, once its texts are judged, is what the tokens say, unless memory ran out
abbrev pub Writes : {X Y : Type 0} → (X → Option ℕ) → (X → Y) → Result (X × Lexer) Stop → Read Y → Type 0
Writes unsaid view (Ok p) says = says ≡ judged (unsaid p.0) (fits (view p.0) (left p.1))
Writes unsaid view (Err e) says = Stops e says
