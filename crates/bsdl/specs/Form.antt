-- The form of a text: the entity that it spells, or the first byte or token that does not fit (IEEE Std 1149.1-2001,
-- Annex B.8.1).
use Rattle.std.specs.Prelude.{ℕ, false, nat_lt, if◌then◌else◌, List, length, Option, Some, None, Result, Ok, Err}
use Rattle.jt_limits.specs.declared.Limits.{Limits}
use Rattle.jt_limits.specs.Limits.{limits}
use Rattle.bsdl_text.specs.Cutting.{Lexeme, tokens, bad_place, cuts_of}
use Rattle.bsdl_text.specs.Reading.{Read, fits, misfit}
use Rattle.bsdl_entity.specs.Entity.{File, file}
use Rattle.bsdl_description.specs.Describing.{Refusal, bad_token, bad_form, too_large}

-- what does not fit stands at a place, or at the end of a text of this size
abbrev pub at_misfit : ℕ → Option ℕ → Refusal
at_misfit size None = bad_form size
at_misfit size (Some place) = bad_form place

abbrev pub read_form : ℕ → Read File → Result File Refusal
read_form size (fits f rest) = Ok f
read_form size (misfit at) = Err (at_misfit size at)

abbrev pub tokens_form : ℕ → Option ℕ → List Lexeme → Result File Refusal
tokens_form size (Some place) ts = Err (bad_token place)
tokens_form size None ts = read_form size (file ts)

-- the entity that a text spells, or its first refusal
abbrev pub text_form_within : Limits → List ℕ → Result File Refusal
text_form_within l text =
    if nat_lt l.description_bytes (length text) then Err too_large
    else tokens_form (length text) (bad_place (cuts_of false text)) (tokens (cuts_of false text))

-- ---- within the limits that stand

abbrev pub text_limit : ℕ
text_limit = limits.description_bytes

abbrev pub text_form : List ℕ → Result File Refusal
text_form text = text_form_within limits text
