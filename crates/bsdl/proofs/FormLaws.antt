-- The form of a text, case by case.
use Rattle.std.proofs.Common.{◌≡◌, ◌≤◌, ◌<◌, ℕ, false, List, length, refl, sym, ap, ◌∙◌, Option, None, Some}
use Rattle.std.specs.Prelude.{Ok, Err}
use Rattle.std.proofs.lemmas.Bool.{le-ltb, lt-ltb}
use Rattle.bsdl_text.specs.Cutting.{Lexeme, tokens, bad_place, cuts_of}
use Rattle.bsdl_text.specs.Reading.{Read, fits, misfit}
use Rattle.bsdl_text.specs.View.{Stops}
use Rattle.bsdl_text.specs.declared.reading.Stop.{Stop}
use Rattle.bsdl_text.specs.declared.reading.Stop.TheVariants as stop
use Rattle.bsdl_values.specs.View.{judged}
use Rattle.bsdl_entity.specs.Entity.{File, file}
use Rattle.bsdl_description.specs.Describing.{bad_token, too_large}
use Rattle.bsdl_description.specs.View.{spelt_by}
use Rattle.bsdl.specs.Form.{text_limit, at_misfit, tokens_form, text_form}

pub form_of_large : (text : List ℕ) → text_limit < length text → text_form text ≡ Err too_large
form_of_large text large = rw (lt-ltb text_limit (length text) large) refl

small : (text : List ℕ) → length text ≤ text_limit → text_form text ≡ tokens_form (length text) (bad_place (cuts_of false text)) (tokens (cuts_of false text))
small text within = rw (le-ltb text_limit (length text) within) refl

pub form_of_bad_byte : (text : List ℕ) (place : ℕ) → length text ≤ text_limit → bad_place (cuts_of false text) ≡ Some place → text_form text ≡ Err (bad_token place)
form_of_bad_byte text place within bad = small text within ∙ ap (λ (o : Option ℕ). tokens_form (length text) o (tokens (cuts_of false text))) bad

form_of_tokens : (text : List ℕ) (ts : List Lexeme) → length text ≤ text_limit → bad_place (cuts_of false text) ≡ None → ts ≡ tokens (cuts_of false text) → text_form text ≡ tokens_form (length text) None ts
form_of_tokens text ts within good same =
    small text within ∙ ap (λ (o : Option ℕ). tokens_form (length text) o (tokens (cuts_of false text))) good ∙ ap (tokens_form (length text) None) (sym same)

form_that_fits : (text : List ℕ) (ts : List Lexeme) (f : File) (rest : List Lexeme) → length text ≤ text_limit → bad_place (cuts_of false text) ≡ None → ts ≡ tokens (cuts_of false text) → file ts ≡ fits f rest
    → text_form text ≡ Ok f
form_that_fits text ts f rest within good same read = form_of_tokens text ts within good same ∙ rw read refl

pub form_that_does_not_fit : (text : List ℕ) (ts : List Lexeme) (at : Option ℕ) → length text ≤ text_limit → bad_place (cuts_of false text) ≡ None → ts ≡ tokens (cuts_of false text) → file ts ≡ misfit at
    → text_form text ≡ Err (at_misfit (length text) at)
form_that_does_not_fit text ts at within good same read = form_of_tokens text ts within good same ∙ rw read refl

-- tokens whose texts are judged then
pub form_that_is_judged : (text : List ℕ) (ts : List Lexeme) (unsaid : Option ℕ) (f : File) (rest : List Lexeme) → length text ≤ text_limit → bad_place (cuts_of false text) ≡ None → ts ≡ tokens (cuts_of false text)
    → file ts ≡ judged unsaid (fits f rest) → text_form text ≡ spelt_by unsaid f
form_that_is_judged text ts None f rest within good same read = form_that_fits text ts f rest within good same read
form_that_is_judged text ts (Some place) f rest within good same read = form_that_does_not_fit text ts (Some place) within good same read

-- where a reader stopped
pub stopped : {Y : Type 0} (s : Stop) (r : Read Y) (o at : Option ℕ) → s ≡ stop.Misfit o → o ≡ at → Stops s r → r ≡ misfit at
stopped stop.Memory r o at e f stops = absurd cc
stopped (stop.Misfit x) r o at e f stops = let same : x ≡ at = cc in stops ∙ ap misfit same
