-- The word at fault of a text that says nothing, and of one that spells an entity.
use Rattle.std.proofs.Common.{◌≡◌, ◌≤◌, ◌∙◌, ℕ, true, false, List, length, refl, sym, ap, Option, None, Some}
use Rattle.std.specs.Prelude.{is_some, option_and_then, Result, Err}
use Rattle.bsdl_text.specs.Cutting.{bad_place, cuts_of}
use Rattle.bsdl_entity.specs.Entity.{File}
use Rattle.bsdl_entity.specs.declared.entity.Outline.{Outline}
use Rattle.bsdl_description.specs.Describing.{Refusal, described, ◌>>?◌}
use Rattle.bsdl_description.specs.View.{spelt}
use Rattle.bsdl.specs.Form.{text_form, text_limit}
use Rattle.bsdl.proofs.FormLaws.{form_of_bad_byte}
use Rattle.bsdl_sizes.specs.declared.sizes.Refused.{Refused}
use Rattle.bsdl_sizes.specs.declared.spots.Spot.{Spot}
use Rattle.bsdl_sizes.specs.Sizes.{refused_spot, spot_at_fault, when_ok}

pub nothing : (r : Refused) (text : List ℕ) (e : Refusal) → text_form text ≡ Err e → None ≡ spot_at_fault r text
nothing r text e is = rw is refl

-- a place is there
some_place : (o : Option ℕ) → true ≡ is_some o → (place : ℕ) × (o ≡ Some place)
some_place None is = absurd cc
some_place (Some place) is = (place, refl)

pub no_place : (o : Option ℕ) → false ≡ is_some o → o ≡ None
no_place None is = refl
no_place (Some place) is = absurd cc

pub nothing_by_byte : (r : Refused) (text : List ℕ) → length text ≤ text_limit → true ≡ is_some (bad_place (cuts_of false text)) → None ≡ spot_at_fault r text
nothing_by_byte r text within bad =
    let place = some_place (bad_place (cuts_of false text)) bad in
    nothing r text _ (form_of_bad_byte text place.0 within place.1)

pub told : (r : Refused) (text : List ℕ) (o : Outline) (spot : Option Spot) → text_form text ≡ spelt o
    → spot ≡ option_and_then (refused_spot r) (when_ok (spelt o >>? described)) → spot ≡ spot_at_fault r text
told r text o spot is h = h ∙ ap (λ (x : Result File Refusal). option_and_then (refused_spot r) (when_ok (x >>? described))) (sym is)
