-- Tokens, texts within quotes and whole texts are read by the grammar.
use Rattle.std.proofs.Common.{◌≡◌, ℕ, ◌≤◌, Bool, true, false, cond, List, [], ◌++◌, length, Option, Some, None, refl, sym, ap, ◌∙◌, arith}
use Rattle.std.specs.Prelude.{nat_lt, Result, Ok, Err}
use Rattle.std.proofs.lemmas.Bool.Decides.{nat_tests}
use Rattle.std.proofs.lemmas.List.{append-nil}
use Rattle.bsdl_text.specs.Cutting.{Lexeme, tokens, bad_place, cuts_of}
use Rattle.bsdl_text.specs.Reading.{Read, fits, misfit}
use Rattle.bsdl_device.specs.Device.{Device}
use Rattle.bsdl_values.specs.InstructionValues.{rows, pattern, opcode_row, private_name, access_row}
use Rattle.bsdl_values.specs.CellRows.{cell_row}
use Rattle.bsdl_values.specs.Values.{value_of}
use Rattle.bsdl_entity.specs.Ports.{ports}
use Rattle.bsdl_entity.specs.Entity.{File, file}
use Rattle.bsdl_description.specs.Describing.{Refusal, too_large, ◌>>?◌}
use Rattle.bsdl.specs.Form.{read_form, tokens_form, text_limit, text_form}
use Rattle.bsdl.specs.Judging.{file_says, text_says}
use Rattle.worked_examples.specs.Ports.{IsPorts}
use Rattle.worked_examples.specs.Quoted.{AreRows, IsPattern, IsOpcodeRow, IsPrivateName, IsAccessRow, IsCellRow}
use Rattle.worked_examples.specs.Values.{IsValue}
use Rattle.worked_examples.specs.SpelledTexts.{SpellsEntity, Describes}
use Rattle.worked_examples.specs.GrammarLaws.{IsReadBy, PortsAreRead, ValuesAreRead, EntitiesAreRead, OpcodesAreRead, PatternsAreRead, CodesAreRead, PrivateNamesAreRead, AccessesAreRead, CellsAreRead, TextsAreRead, DevicesAreRead, EntitiesAreOne, DevicesAreOne}
use Rattle.worked_examples.proofs.Steps.{Finds, AreTokens}
use Rattle.worked_examples.proofs.PortReads.{ports_found, ports_read}
use Rattle.worked_examples.proofs.TextReads.{text_tokens, cuts_read, cuts_found, within_is_read}
use Rattle.worked_examples.proofs.PatternReads.{exact_found}
use Rattle.worked_examples.proofs.InstructionReads.{patterns_exact, pattern_exact, opcodes_exact, names_exact, accesses_exact}
use Rattle.worked_examples.proofs.CellReads.{cells_exact}
use Rattle.worked_examples.proofs.ValueReads.{attribute_value_found, attribute_value_read}
use Rattle.worked_examples.proofs.FileReads.{file_found, file_read}

-- ---- tokens

-- what a reader finds and reads is what the grammar says
read_by : {A : Type 0} (reader : List Lexeme → Read A) (Is : A → List Lexeme → Type 0) → Finds reader Is → ((ts : List Lexeme) (x : A) → Is x ts → AreTokens ts → reader (ts ++ []) ≡ fits x []) → IsReadBy reader Is
read_by reader Is finds reads ts x all_tokens = (λ h. ap reader (sym (append-nil ts)) ∙ reads ts x h all_tokens, exact_found reader Is finds ts x)

pub ports_are_read : PortsAreRead
ports_are_read = read_by ports IsPorts ports_found (λ ts ps h all_tokens. ports_read ts ps [] h all_tokens tt)

pub values_are_read : ValuesAreRead
values_are_read a name = read_by (value_of a name) (IsValue a name) (attribute_value_found a name) (λ ts v h all_tokens. attribute_value_read a name ts v [] h all_tokens refl)

pub entities_are_read : EntitiesAreRead
entities_are_read ts f all_tokens = (λ h. file_read ts f h all_tokens, file_found ts f [])

-- ---- texts within quotes

pub opcodes_are_read : OpcodesAreRead
opcodes_are_read = within_is_read (rows opcode_row) (AreRows IsOpcodeRow) opcodes_exact

pub patterns_are_read : PatternsAreRead
patterns_are_read = within_is_read pattern IsPattern pattern_exact

pub codes_are_read : CodesAreRead
codes_are_read = within_is_read (rows pattern) (AreRows IsPattern) patterns_exact

pub private_names_are_read : PrivateNamesAreRead
private_names_are_read = within_is_read (rows private_name) (AreRows IsPrivateName) names_exact

pub accesses_are_read : AccessesAreRead
accesses_are_read = within_is_read (rows access_row) (AreRows IsAccessRow) accesses_exact

pub cells_are_read : CellsAreRead
cells_are_read = within_is_read (rows cell_row) (AreRows IsCellRow) cells_exact

-- ---- whole texts

record Form (text : List ℕ) (f : File) : Type 0 where
  small : length text ≤ text_limit
  whole : bad_place (cuts_of false text) ≡ None
  rest : List Lexeme
  read : file (tokens (cuts_of false text)) ≡ fits f rest

-- an answer is one
same_ok : {A B : Type 0} (r : Result A B) (x y : A) → r ≡ Ok x → r ≡ Ok y → x ≡ y
same_ok (Ok z) x y a b =
    let first : z ≡ x = cc in
    let second : z ≡ y = cc in
    sym first ∙ second
same_ok (Err e) x y a b = absurd cc

form_read : (size : ℕ) (r : Read File) (f : File) → read_form size r ≡ Ok f → (rest : List Lexeme) × (r ≡ fits f rest)
form_read size (fits g rest) f e = (rest, let same : g ≡ f = cc in ap (λ x. fits x rest) same)
form_read size (misfit at) f e = absurd cc

form_by : (text : List ℕ) (f : File) (large : Bool) (place : Option ℕ) → nat_lt text_limit (length text) ≡ large → bad_place (cuts_of false text) ≡ place
    → cond large (Err too_large) (tokens_form (length text) place (tokens (cuts_of false text))) ≡ Ok f → Form text f
form_by text f true place is bad e = absurd cc
form_by text f false (Some place) is bad e = absurd cc
form_by text f false None is bad e =
    let r = form_read (length text) (file (tokens (cuts_of false text))) f e in
    record { small = grind (arith, nat_tests); whole = bad; rest = r.0; read = r.1 }

spelt : (text : List ℕ) (f : File) → text_form text ≡ Ok f → SpellsEntity text f
spelt text f e =
    let h = form_by text f (nat_lt text_limit (length text)) (bad_place (cuts_of false text)) refl refl e in
    (h.small, tokens (cuts_of false text), cuts_found false text h.whole, file_found (tokens (cuts_of false text)) f h.rest h.read)

pub not_large : (text : List ℕ) → length text ≤ text_limit → nat_lt text_limit (length text) ≡ false
not_large text h = grind (arith, nat_tests)

pub read_as : (text : List ℕ) (f : File) → SpellsEntity text f → text_form text ≡ Ok f
read_as text f h =
    let c = cuts_read false text h.1 h.2 in
    rw (not_large text h.0, c.whole, c.are, file_read h.1 f h.3 (text_tokens false text h.1 h.2)) refl

pub texts_are_read : TextsAreRead
texts_are_read text f = (read_as text f, spelt text f)

judged : (text : List ℕ) (d : Device) (r : Result File Refusal) → text_form text ≡ r → (r >>? file_says) ≡ Ok d → Describes text d
judged text d (Ok f) is e = (f, spelt text f is, e)
judged text d (Err refusal) is e = absurd cc

pub devices_are_read : DevicesAreRead
devices_are_read text d = (λ h. ap (λ r. r >>? file_says) (read_as text h.0 h.1) ∙ h.2, judged text d (text_form text) refl)

pub entities_are_one : EntitiesAreOne
entities_are_one text f g h k = same_ok (text_form text) f g (read_as text f h) (read_as text g k)

pub devices_are_one : DevicesAreOne
devices_are_one text d e h k = same_ok (text_says text) d e ((devices_are_read text d).0 h) ((devices_are_read text e).0 k)
