-- The token at fault in a text within the quotes of a description, which a refusal tells by the text's first quote.
use Rattle.std.specs.Prelude.{ℕ, ◌+◌, ◌-◌, ◌&&◌, ◌||◌, ◌==◌, not, nat_lt, min, Bool, true, false, if◌then◌else◌}
use Rattle.std.specs.Prelude.{List, [], ◌∷◌}
use Rattle.std.specs.Prelude.{codes, length, drop, Option, Some, None, option_map}
use Rattle.bsdl_text.specs.Cutting.{Lexeme, tokens, bad_place, cuts_of}
use Rattle.bsdl_text.specs.Reading.{Read, fits, misfit, joined_text, stands, is_text_kind}
use Rattle.bsdl_text.specs.Words.{same_name, stands_for}
use Rattle.bsdl_values.specs.declared.values.Language.{Language}
use Rattle.bsdl_values.specs.declared.values.Language.TheVariants.{Opcodes, Capture, Cells, Codes, PrivateNames}
use Rattle.bsdl_values.specs.declared.values.Language.TheVariants.{Accesses}
use Rattle.bsdl_values.specs.InstructionValues.{rows, pattern, opcode_row, private_name, access_row}
use Rattle.bsdl_values.specs.CellRows.{cell_row}
use Rattle.bsdl_sizes.specs.declared.spots.Spot.{Spot}
use Rattle.bsdl_sizes.specs.declared.spots.Spot.TheVariants.{Outside, Inside}

-- what the text of an attribute of this name is written in
abbrev pub language_of : List ℕ → Option Language
language_of name =
    stands_for ((codes "INSTRUCTION_OPCODE", Opcodes) ∷ (codes "INSTRUCTION_CAPTURE", Capture)
    ∷ (codes "BOUNDARY_REGISTER", Cells) ∷ (codes "IDCODE_REGISTER", Codes) ∷ (codes "USERCODE_REGISTER", Codes)
    ∷ (codes "INSTRUCTION_PRIVATE", PrivateNames) ∷ (codes "REGISTER_ACCESS", Accesses) ∷ []) name

-- the first token stands at this place
abbrev pub starts_at : ℕ → List Lexeme → Bool
starts_at place [] = false
starts_at place (t ∷ ts) = t.start == place

abbrev pub first_text : List Lexeme → List ℕ
first_text [] = []
first_text (t ∷ ts) = t.text

-- The text whose first quote stands at this place, as the value of an attribute: its language, and the tokens from that
-- quote on. In `attribute NAME of name : word is` six tokens stand between the first word and the value.
abbrev pub quoted_at : ℕ → List Lexeme → Option (Language × List Lexeme)
quoted_at place [] = None
quoted_at place (t ∷ ts) =
    if same_name t.text (codes "ATTRIBUTE") && starts_at place (drop 6 ts)
    then option_map (λ l. (l, drop 6 ts)) (language_of (first_text ts))
    else quoted_at place ts

-- ---- the token at fault, by its offset in the joined text

abbrev pub next_start : List Lexeme → Option ℕ
next_start [] = None
next_start (t ∷ ts) = Some t.start

-- a bad byte, the first token that does not fit, one behind what is said, or the end where the text ends too early
abbrev pub unfit : {A : Type 0} → List ℕ → Option ℕ → Read A → Option ℕ
unfit text (Some place) r = Some place
unfit text None (fits x rest) = next_start rest
unfit text None (misfit (Some place)) = Some place
unfit text None (misfit None) = Some (length text)

abbrev pub unfit_by : {A : Type 0} → (List Lexeme → Read A) → List ℕ → Option ℕ
unfit_by item text = unfit text (bad_place (cuts_of true text)) (item (tokens (cuts_of true text)))

abbrev pub unfit_in : Language → List ℕ → Option ℕ
unfit_in Opcodes text = unfit_by (rows opcode_row) text
unfit_in Capture text = unfit_by pattern text
unfit_in Cells text = unfit_by (rows cell_row) text
unfit_in Codes text = unfit_by (rows pattern) text
unfit_in PrivateNames text = unfit_by (rows private_name) text
unfit_in Accesses text = unfit_by (rows access_row) text

-- ---- the same by its place in the file

-- how many bytes stand between the quotes of a string
abbrev pub inner_len : Lexeme → ℕ
inner_len t = length t.text - 2

-- where an offset of the strings that these tokens join lies: within the string that has it, or at the quote that
-- closes the last
abbrev pub place_in : ℕ → List Lexeme → ℕ
place_in offset [] = 0
place_in offset (t ∷ ts) =
    if is_text_kind t.kind
    then (if nat_lt offset (inner_len t) || not (stands 38 ts) then t.start + 1 + min offset (inner_len t)
    else place_in (offset - inner_len t) ts)
    else place_in offset ts

abbrev pub place_or : ℕ → ℕ → List Lexeme → Option ℕ → ℕ
place_or len place ts None = place
place_or len place ts (Some offset) = min len (place_in offset ts)

abbrev pub joined_place : ℕ → ℕ → Language → List Lexeme → Read (List ℕ) → ℕ
joined_place len place l ts (misfit at) = place
joined_place len place l ts (fits joined rest) = place_or len place ts (unfit_in l joined)

-- the place of the token at fault of a description with B2 at this place
abbrev pub unfit_place : List ℕ → ℕ → ℕ
unfit_place text place = by (quoted_at place (tokens (cuts_of false text)))
  where
    by : Option (Language × List Lexeme) → ℕ
    by None = place
    by (Some p) = joined_place (length text) place p.0 p.1 (joined_text p.1)

-- the place of a spot: within quotes that of its offset
abbrev pub spot_place : List ℕ → Spot → ℕ
spot_place text (Outside start) = start
spot_place text (Inside quote offset) = by (quoted_at quote (tokens (cuts_of false text)))
  where
    by : Option (Language × List Lexeme) → ℕ
    by None = quote
    by (Some p) = min (length text) (place_in offset p.1)
