-- Texts are refused by the grammar.
use Rattle.std.proofs.Common.{◌≡◌, ℕ, ◌≤◌, ◌<◌, Bool, true, false, List, [], ◌∷◌, ◌++◌, length, map, Option, Some, None, refl, sym, ap, ◌∙◌, inl, inr, ◌⊎◌, arith}
use Rattle.std.specs.Prelude.{nat_lt, Result, Ok, Err}
use Rattle.std.proofs.lemmas.Bool.Decides.{nat_tests}
use Rattle.bsdl_text.specs.Cutting.{Lexeme, piece, bad, bad_place, cuts_of}
use Rattle.bsdl_text.specs.Gaps.{TokensOf, BadAfter}
use Rattle.bsdl_text.proofs.Cuttings.{each_is_cut, bad_byte_is_cut}
use Rattle.bsdl_text.specs.Reading.{Read, fits, misfit}
use Rattle.bsdl_entity.specs.Entity.{File, file}
use Rattle.bsdl_description.specs.Describing.{bad_token, bad_form, too_large}
use Rattle.bsdl.specs.Form.{read_form, text_limit, text_form}
use Rattle.worked_examples.specs.Entity.{IsFile}
use Rattle.worked_examples.specs.SpelledTexts.{SpellsEntity, HasBadByte, SpellsNothing}
use Rattle.worked_examples.specs.GrammarLaws.{LargeIsRefused, BadByteIsRefused, NothingIsRefused, EachIsTold}
use Rattle.worked_examples.proofs.TextReads.{text_tokens, cuts_read}
use Rattle.worked_examples.proofs.FileReads.{file_found, file_read}
use Rattle.worked_examples.proofs.ReadLaws.{not_large, read_as}

-- ---- each text is of one sort

data Sort (text : List ℕ) : Type 0 where
  large : text_limit < length text → Sort text
  bad_byte : (place : ℕ) → HasBadByte text place → Sort text
  nothing : SpellsNothing text → Sort text
  entity : (f : File) → SpellsEntity text f → Sort text

no_file : (ts : List Lexeme) (at : Option ℕ) (f : File) → file ts ≡ misfit at → file ts ≡ fits f [] → ⊥
no_file ts at f a b = cc

file_sort : (text : List ℕ) (ts : List Lexeme) (r : Read File) → length text ≤ text_limit → TokensOf false text ts → file ts ≡ r → Sort text
file_sort text ts (fits f rest) small are is = entity f (small, ts, are, file_found ts f rest is)
file_sort text ts (misfit at) small are is = nothing (small, ts, are, λ f h. no_file ts at f is (file_read ts f h (text_tokens false text ts are)))

cut_sort : (text : List ℕ) → length text ≤ text_limit → ((ts : List Lexeme) × TokensOf false text ts) ⊎ ((ts : List Lexeme) × (place : ℕ) × BadAfter false text ts place) → Sort text
cut_sort text small (inl h) = file_sort text h.0 (file h.0) small h.1 refl
cut_sort text small (inr h) = bad_byte h.1 (small, h.0, h.2)

sort_by : (text : List ℕ) (b : Bool) → nat_lt text_limit (length text) ≡ b → Sort text
sort_by text true is = large (grind (arith, nat_tests))
sort_by text false is = cut_sort text (grind (arith, nat_tests)) (each_is_cut false text)

sort_of : (text : List ℕ) → Sort text
sort_of text = sort_by text (nat_lt text_limit (length text)) refl

-- ---- what each is told

large_told : (text : List ℕ) → text_limit < length text → text_form text ≡ Err too_large
large_told text h =
    let is : nat_lt text_limit (length text) ≡ true = grind (arith, nat_tests) in
    rw is refl

first_bad : (ts : List Lexeme) (place : ℕ) → bad_place (map piece ts ++ bad place ∷ []) ≡ Some place
first_bad [] place = refl
first_bad (t ∷ ts) place = first_bad ts place

bad_told : (text : List ℕ) (place : ℕ) → HasBadByte text place → text_form text ≡ Err (bad_token place)
bad_told text place h =
    let found : bad_place (cuts_of false text) ≡ Some place = ap bad_place ((bad_byte_is_cut false text h.1 place).0 h.2) ∙ first_bad h.1 place in
    rw (not_large text h.0, found) refl

record ToldForm (text : List ℕ) : Type 0 where
  place : ℕ
  told : text_form text ≡ Err (bad_form place)

misfit_told : (text : List ℕ) (at : Option ℕ) → text_form text ≡ read_form (length text) (misfit at) → ToldForm text
misfit_told text None e = record { place = length text; told = e }
misfit_told text (Some place) e = record { place = place; told = e }

read_told : (text : List ℕ) (ts : List Lexeme) (r : Read File) → ((f : File) → ¬ IsFile f ts) → file ts ≡ r → text_form text ≡ read_form (length text) (file ts) → ToldForm text
read_told text ts (fits f rest) never is e = absurd (never f (file_found ts f rest is))
read_told text ts (misfit at) never is e = misfit_told text at (e ∙ ap (read_form (length text)) is)

nothing_told : (text : List ℕ) → SpellsNothing text → ToldForm text
nothing_told text h =
    let c = cuts_read false text h.1 h.2 in
    let is : text_form text ≡ read_form (length text) (file h.1) = rw (not_large text h.0, c.whole, c.are) refl in
    read_told text h.1 (file h.1) h.3 refl is

-- ---- and only that

same_err : {A B : Type 0} (r : Result A B) (x y : B) → r ≡ Err x → r ≡ Err y → x ≡ y
same_err (Ok z) x y a b = absurd cc
same_err (Err z) x y a b =
    let first : z ≡ x = cc in
    let second : z ≡ y = cc in
    sym first ∙ second

not_both : {A B : Type 0} (r : Result A B) (x : A) (y : B) → r ≡ Ok x → r ≡ Err y → ⊥
not_both (Ok z) x y a b = cc
not_both (Err z) x y a b = cc

large_only : (text : List ℕ) → text_form text ≡ Err too_large → Sort text → text_limit < length text
large_only text e (large h) = h
large_only text e (bad_byte place h) = absurd (let f = same_err (text_form text) too_large (bad_token place) e (bad_told text place h) in cc)
large_only text e (nothing h) =
    let t = nothing_told text h in
    absurd (let f = same_err (text_form text) too_large (bad_form t.place) e t.told in cc)
large_only text e (entity f h) = absurd (not_both (text_form text) f too_large (read_as text f h) e)

bad_only : (text : List ℕ) (place : ℕ) → text_form text ≡ Err (bad_token place) → Sort text → HasBadByte text place
bad_only text place e (large h) = absurd (let f = same_err (text_form text) too_large (bad_token place) (large_told text h) e in cc)
bad_only text place e (bad_byte other h) =
    let f = same_err (text_form text) (bad_token other) (bad_token place) (bad_told text other h) e in
    let same : other ≡ place = cc in
    rw same at h
bad_only text place e (nothing h) =
    let t = nothing_told text h in
    absurd (let f = same_err (text_form text) (bad_token place) (bad_form t.place) e t.told in cc)
bad_only text place e (entity f h) = absurd (not_both (text_form text) f (bad_token place) (read_as text f h) e)

nothing_only : (text : List ℕ) (place : ℕ) → text_form text ≡ Err (bad_form place) → Sort text → SpellsNothing text
nothing_only text place e (large h) = absurd (let f = same_err (text_form text) too_large (bad_form place) (large_told text h) e in cc)
nothing_only text place e (bad_byte other h) = absurd (let f = same_err (text_form text) (bad_token other) (bad_form place) (bad_told text other h) e in cc)
nothing_only text place e (nothing h) = h
nothing_only text place e (entity f h) = absurd (not_both (text_form text) f (bad_form place) (read_as text f h) e)

pub large_is_refused : LargeIsRefused
large_is_refused text = (large_told text, λ e. large_only text e (sort_of text))

pub bad_byte_is_refused : BadByteIsRefused
bad_byte_is_refused text place = (bad_told text place, λ e. bad_only text place e (sort_of text))

pub nothing_is_refused : NothingIsRefused
nothing_is_refused text = (λ h. let t = nothing_told text h in (t.place, t.told), λ e. nothing_only text e.0 e.1 (sort_of text))

told_by : (text : List ℕ) → Sort text → (text_limit < length text) ⊎ (((place : ℕ) × HasBadByte text place) ⊎ (SpellsNothing text ⊎ ((f : File) × SpellsEntity text f)))
told_by text (large h) = inl h
told_by text (bad_byte place h) = inr (inl (place, h))
told_by text (nothing h) = inr (inr (inl h))
told_by text (entity f h) = inr (inr (inr (f, h)))

pub each_is_told : EachIsTold
each_is_told text = told_by text (sort_of text)
