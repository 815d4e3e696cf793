-- What is awaited word by word is the form of a command's words.
use Rattle.std.proofs.Common.{◌≡◌, ℕ, Bool, true, false, ◌&&◌, cond, nat_le, List, [], ◌∷◌, ◌++◌, refl, sym, ap, ◌∙◌, arith}
use Rattle.std.specs.Prelude.{codes, not, is_some, slice_index, Option, Some, None, option_map, option_and_then}
use Rattle.std.specs.List.{list_all}
use Rattle.std.proofs.lemmas.Slice.Eq.{bytes_eq-Decides}
use Rattle.std.proofs.lemmas.Bool.Decides.{nat_tests}
use Rattle.jt_tap.specs.declared.State.{State}
use Rattle.svf_words.specs.declared.keywords.FieldName.{FieldName}
use Rattle.svf_words.specs.declared.keywords.FieldName.TheVariants as field
use Rattle.svf_words.specs.declared.keywords.Which.{Which}
use Rattle.svf_words.specs.Words.{Word, lower, reads, is_open, is_close, is_number}
use Rattle.svf_words.specs.Keywords.{state_of, trst_of, field_of, field_word}
use Rattle.svf_words.proofs.KeywordLaws.{field_found}
use Rattle.svf_parse.specs.Fields.{◌>>?◌, Fields, no_fields, Closed, over, closing, before_close, cut_at_close, joined_digits, put, if_none, fields_say}
use Rattle.svf_parse.specs.Forms.{scan_form, one_state, one_trst, with_state, each_state, some_states, hertz, scan_of}
use Rattle.refusal_places.specs.declared.misfits.Awaited.{Awaited}
use Rattle.refusal_places.specs.declared.misfits.Awaited.TheVariants as awaited
use Rattle.refusal_places.specs.declared.misfits.Given.{Given}
use Rattle.refusal_places.specs.Misfits.{behind, give, if_so, may_end, none_given}

-- what follows, where a word fits
abbrev pub taken : Option Awaited → (Awaited → Bool) → Bool
taken None next = false
taken (Some b) next = next b

-- the words are the rest of a statement
abbrev pub accepts : Awaited → List Word → Bool
accepts a [] = may_end a
accepts a (w ∷ ws) = taken (behind a w) (λ b. accepts b ws)

pub is_some-map : {A B : Type 0} (f : A → B) (o : Option A) → is_some o ≡ is_some (option_map f o)
is_some-map f None = refl
is_some-map f (Some x) = refl

abbrev pub is_nil : List Word → Bool
is_nil [] = true
is_nil (w ∷ ws) = false

-- ---- one word

pub end_is : (ws : List Word) → accepts awaited.End ws ≡ is_nil ws
end_is [] = refl
end_is (w ∷ ws) = refl

one_word : (fits : Bool) → taken (if_so fits awaited.End) (λ b. accepts b []) ≡ fits
one_word true = refl
one_word false = refl

two_words : (fits : Bool) (x : Word) (ws : List Word) → taken (if_so fits awaited.End) (λ b. accepts b (x ∷ ws)) ≡ false
two_words true x ws = refl
two_words false x ws = refl

pub state_end : (ws : List Word) → accepts awaited.LastState ws ≡ is_some (one_state ws)
unfolding one_state
state_end [] = refl
state_end (w ∷ []) = one_word (is_some (state_of w))
state_end (w ∷ x ∷ ws) = two_words (is_some (state_of w)) x ws

pub trst_end : (ws : List Word) → accepts awaited.TrstWord ws ≡ is_some (one_trst ws)
unfolding one_trst
trst_end [] = refl
trst_end (w ∷ []) = one_word (is_some (trst_of w))
trst_end (w ∷ x ∷ ws) = two_words (is_some (trst_of w)) x ws

-- ---- a frequency

unit_end : (n : Word) (fits : Bool) → taken (if_so fits awaited.End) (λ b. accepts b []) ≡ is_some (cond fits (Some (Some n)) None)
unit_end n true = refl
unit_end n false = refl

number_alone : (fits : Bool) → taken (if_so fits awaited.Hertz) (λ b. accepts b []) ≡ false
number_alone true = refl
number_alone false = refl

number_unit : (n u : Word) (fits : Bool) → taken (if_so fits awaited.Hertz) (λ b. accepts b (u ∷ [])) ≡ is_some (cond (fits && reads u (codes "HZ")) (Some (Some n)) None)
number_unit n u true = unit_end n (reads u (codes "HZ"))
number_unit n u false = refl

number_more : (u x : Word) (ws : List Word) (fits : Bool) → taken (if_so fits awaited.Hertz) (λ b. accepts b (u ∷ x ∷ ws)) ≡ false
number_more u x ws true = two_words (reads u (codes "HZ")) x ws
number_more u x ws false = refl

pub frequency_end : (ws : List Word) → accepts awaited.Frequency ws ≡ is_some (hertz ws)
unfolding hertz
frequency_end [] = refl
frequency_end (n ∷ []) = number_alone (is_number n)
frequency_end (n ∷ u ∷ []) = number_unit n u (is_number n)
frequency_end (n ∷ u ∷ x ∷ ws) = number_more u x ws (is_number n)

-- ---- a path

with_some : (s : State) (r : Option (List State)) → is_some r ≡ is_some (with_state (Some s) r)
with_some s None = refl
with_some s (Some ss) = refl

one_state_more : (o : Option State) (ws : List Word) → accepts awaited.FurtherState ws ≡ is_some (each_state ws)
    → taken (if_so (is_some o) awaited.FurtherState) (λ b. accepts b ws) ≡ is_some (with_state o (each_state ws))
one_state_more None ws more = refl
one_state_more (Some s) ws more = more ∙ with_some s (each_state ws)

states_end : (ws : List Word) → accepts awaited.FurtherState ws ≡ is_some (each_state ws)
unfolding each_state
states_end [] = refl
states_end (w ∷ ws) = one_state_more (state_of w) ws (states_end ws)

pub path_end : (ws : List Word) → accepts awaited.FirstState ws ≡ is_some (some_states ws)
unfolding some_states
path_end [] = refl
path_end (w ∷ ws) = states_end (w ∷ ws)

-- ---- fields

abbrev pub given_of : Fields → Given
given_of fs = record { tdi = is_some fs.tdi; tdo = is_some fs.tdo; mask = is_some fs.mask; smask = is_some fs.smask }

abbrev pub no_opens : List Word → Bool
no_opens ws = list_all (λ w. not (is_open w)) ws

abbrev pub named : Option FieldName → (FieldName → Bool) → Bool
named None next = false
named (Some f) next = next f

abbrev pub given_more : Option Given → (Given → Bool) → Bool
given_more None next = false
given_more (Some g) next = next g

-- behind the words of a field up to its `)`
abbrev pub field_fits : Given → Option FieldName → Word → List Word → (Given → Bool) → Bool
field_fits g o x ds next = named o (λ f. is_open x && (no_opens ds && given_more (give f g) next))

-- fields that are put one by one fit
abbrev pub fit : Given → Closed → Bool
fit g (over []) = true
fit g (over (w ∷ ws)) = false
fit g (closing [] rest) = false
fit g (closing (w ∷ []) rest) = false
fit g (closing (w ∷ x ∷ ds) rest) = field_fits g (field_of w) x ds (λ h. fit h rest)

digits_more : (w : Word) (o : Option (List ℕ)) (b : Bool) → is_some o ≡ b → is_some (o >>? λ h. Some (w ++ h)) ≡ b
digits_more w None b e = e
digits_more w (Some h) b e = e

digits_join_by : (w : Word) (ws : List Word) (b : Bool) → is_some (joined_digits ws) ≡ no_opens ws
    → is_some (cond b None (joined_digits ws >>? λ h. Some (w ++ h))) ≡ (not b && no_opens ws)
digits_join_by w ws true more = refl
digits_join_by w ws false more = digits_more w (joined_digits ws) (no_opens ws) more

digits_join : (ws : List Word) → is_some (joined_digits ws) ≡ no_opens ws
digits_join [] = refl
digits_join (w ∷ ws) = digits_join_by w ws (is_open w) (digits_join ws)

put_given : (f : FieldName) (h : List ℕ) (fs : Fields) (k : Fields → Option Fields) (m : Given → Bool) → ((gs : Fields) → is_some (k gs) ≡ m (given_of gs))
    → is_some (put f h fs >>? k) ≡ given_more (give f (given_of fs)) m
put_given field.Tdi h fs k m more = by fs.tdi
  where
    by : (o : Option (List ℕ)) → is_some (if_none o (record fs { tdi = Some h }) >>? k) ≡ given_more (cond (is_some o) None (Some (record (given_of fs) { tdi = true }))) m
    by None = more (record fs { tdi = Some h })
    by (Some y) = refl
put_given field.Tdo h fs k m more = by fs.tdo
  where
    by : (o : Option (List ℕ)) → is_some (if_none o (record fs { tdo = Some h }) >>? k) ≡ given_more (cond (is_some o) None (Some (record (given_of fs) { tdo = true }))) m
    by None = more (record fs { tdo = Some h })
    by (Some y) = refl
put_given field.Mask h fs k m more = by fs.mask
  where
    by : (o : Option (List ℕ)) → is_some (if_none o (record fs { mask = Some h }) >>? k) ≡ given_more (cond (is_some o) None (Some (record (given_of fs) { mask = true }))) m
    by None = more (record fs { mask = Some h })
    by (Some y) = refl
put_given field.Smask h fs k m more = by fs.smask
  where
    by : (o : Option (List ℕ)) → is_some (if_none o (record fs { smask = Some h }) >>? k) ≡ given_more (cond (is_some o) None (Some (record (given_of fs) { smask = true }))) m
    by None = more (record fs { smask = Some h })
    by (Some y) = refl

digits_put : (f : FieldName) (fs : Fields) (ds : List Word) (o : Option (List ℕ)) (k : Fields → Option Fields) (m : Given → Bool) → ((gs : Fields) → is_some (k gs) ≡ m (given_of gs))
    → is_some o ≡ no_opens ds → is_some (o >>? λ h. put f h fs >>? k) ≡ (no_opens ds && given_more (give f (given_of fs)) m)
digits_put f fs ds None k m more is = ap (λ b. b && given_more (give f (given_of fs)) m) is
digits_put f fs ds (Some h) k m more is = put_given f h fs k m more ∙ ap (λ b. b && given_more (give f (given_of fs)) m) is

open_put : (f : FieldName) (fs : Fields) (ds : List Word) (b : Bool) (k : Fields → Option Fields) (m : Given → Bool) → ((gs : Fields) → is_some (k gs) ≡ m (given_of gs))
    → is_some (cond b (joined_digits ds) None >>? λ h. put f h fs >>? k) ≡ (b && (no_opens ds && given_more (give f (given_of fs)) m))
open_put f fs ds true k m more = digits_put f fs ds (joined_digits ds) k m more (digits_join ds)
open_put f fs ds false k m more = refl

name_put : (o : Option FieldName) (fs : Fields) (x : Word) (ds : List Word) (k : Fields → Option Fields) (m : Given → Bool) → ((gs : Fields) → is_some (k gs) ≡ m (given_of gs))
    → is_some (o >>? λ f. cond (is_open x) (joined_digits ds) None >>? λ h. put f h fs >>? k) ≡ field_fits (given_of fs) o x ds m
name_put None fs x ds k m more = refl
name_put (Some f) fs x ds k m more = open_put f fs ds (is_open x) k m more

fields_fit : (c : Closed) (fs : Fields) → is_some (fields_say fs c) ≡ fit (given_of fs) c
unfolding fields_say
fields_fit (over []) fs = refl
fields_fit (over (w ∷ ws)) fs = refl
fields_fit (closing [] rest) fs = refl
fields_fit (closing (w ∷ []) rest) fs = refl
fields_fit (closing (w ∷ x ∷ ds) rest) fs = name_put (field_of w) fs x ds (λ gs. fields_say gs rest) (λ g. fit g rest) (fields_fit rest)

-- ---- the same word by word

-- behind a field's name, and behind its `(`
abbrev pub opened : Given → Closed → Bool
opened g (over ws) = false
opened g (closing [] rest) = false
opened g (closing (x ∷ ds) rest) = is_open x && (no_opens ds && fit g rest)

abbrev pub filled : Given → Closed → Bool
filled g (over ws) = false
filled g (closing ds rest) = no_opens ds && fit g rest

and_false : (a b : Bool) → (a && (b && false)) ≡ false
and_false true true = refl
and_false true false = refl
and_false false b = refl

-- what fits behind the name of a field
abbrev pub behind_name : Given → Option FieldName → Closed → Bool
behind_name g o (over ws) = false
behind_name g o (closing [] rest) = false
behind_name g o (closing (x ∷ ds) rest) = field_fits g o x ds (λ h. fit h rest)

name_first : (g : Given) (w : Word) (c : Closed) → fit g (before_close w c) ≡ behind_name g (field_of w) c
name_first g w (over []) = refl
name_first g w (over (y ∷ ys)) = refl
name_first g w (closing [] rest) = refl
name_first g w (closing (x ∷ ds) rest) = refl

no_name : (g : Given) (c : Closed) → false ≡ behind_name g None c
no_name g (over ws) = refl
no_name g (closing [] rest) = refl
no_name g (closing (x ∷ ds) rest) = refl

given_next : (g : Given) (f : FieldName) (r : Option Given) (c : Closed) → give f g ≡ r → given_more r (λ h. opened h c) ≡ behind_name g (Some f) c
given_next g f None (over ws) is = refl
given_next g f None (closing [] rest) is = refl
given_next g f None (closing (x ∷ ds) rest) is = rw is (sym (and_false (is_open x) (no_opens ds)))
given_next g f (Some h) (over ws) is = refl
given_next g f (Some h) (closing [] rest) is = refl
given_next g f (Some h) (closing (x ∷ ds) rest) is = rw is refl

given_same : (r : Option Given) (k m : Given → Bool) → ((h : Given) → k h ≡ m h) → given_more r k ≡ given_more r m
given_same None k m same = refl
given_same (Some h) k m same = same h

given_taken : (r : Option Given) (ws : List Word) → taken (option_and_then (λ h. Some (awaited.Opening h)) r) (λ b. accepts b ws) ≡ given_more r (λ h. accepts (awaited.Opening h) ws)
given_taken None ws = refl
given_taken (Some h) ws = refl

name_taken : (g : Given) (o : Option FieldName) (ws : List Word) (c : Closed) → ((h : Given) → accepts (awaited.Opening h) ws ≡ opened h c)
    → taken (option_and_then (λ h. Some (awaited.Opening h)) (option_and_then (λ f. give f g) o)) (λ b. accepts b ws) ≡ behind_name g o c
name_taken g None ws c more = no_name g c
name_taken g (Some f) ws c more =
    given_taken (give f g) ws ∙ given_same (give f g) (λ h. accepts (awaited.Opening h) ws) (λ h. opened h c) more ∙ given_next g f (give f g) c refl

close_begins : (w : Word) → is_close w ≡ true → nat_le 97 (slice_index (lower w) 0) ≡ false
close_begins [] h = refl
close_begins (c ∷ cs) h = grind (arith, nat_tests)

field_begins : (f : FieldName) → nat_le 97 (slice_index (lower (field_word f)) 0) ≡ true
field_begins field.Tdi = refl
field_begins field.Tdo = refl
field_begins field.Mask = refl
field_begins field.Smask = refl

pub lowered : (w k : List ℕ) → reads w k ≡ true → lower w ≡ lower k
lowered w k h = (bytes_eq-Decides (lower w) (lower k)).0 h

close_is_no_field_by : (w : Word) (o : Option FieldName) → is_close w ≡ true → field_of w ≡ o → o ≡ None
close_is_no_field_by w None h e = refl
close_is_no_field_by w (Some f) h e =
    let letter : nat_le 97 (slice_index (lower w) 0) ≡ true = ap (λ (l : List ℕ). nat_le 97 (slice_index l 0)) (lowered w (field_word f) (field_found w f e)) ∙ field_begins f in
    let none : nat_le 97 (slice_index (lower w) 0) ≡ false = close_begins w h in
    absurd cc

close_is_no_field : (w : Word) → is_close w ≡ true → field_of w ≡ None
close_is_no_field w h = close_is_no_field_by w (field_of w) h refl

field_step : (g : Given) (w : Word) (ws : List Word) (b : Bool) → is_close w ≡ b → ((h : Given) → accepts (awaited.Opening h) ws ≡ opened h (cut_at_close ws))
    → accepts (awaited.Field g) (w ∷ ws) ≡ fit g (cond b (closing [] (cut_at_close ws)) (before_close w (cut_at_close ws)))
field_step g w ws true is more = rw (close_is_no_field w is) refl
field_step g w ws false is more = name_taken g (field_of w) ws (cut_at_close ws) more ∙ sym (name_first g w (cut_at_close ws))

open_is_no_close : (w : Word) → is_open w ≡ true → is_close w ≡ false
open_is_no_close w h = grind (arith, nat_tests)

opened_first : (g : Given) (w : Word) (c : Closed) → is_open w ≡ true → opened g (before_close w c) ≡ filled g c
opened_first g w (over ws) is = refl
opened_first g w (closing ds rest) is = rw is refl

unopened : (g : Given) (w : Word) (c : Closed) (b : Bool) → is_open w ≡ false → false ≡ opened g (cond b (closing [] c) (before_close w c))
unopened g w c true is = refl
unopened g w (over ws) false is = refl
unopened g w (closing ds rest) false is = rw is refl

open_step : (g : Given) (w : Word) (ws : List Word) (b : Bool) → is_open w ≡ b → accepts (awaited.Digits g) ws ≡ filled g (cut_at_close ws)
    → taken (if_so b (awaited.Digits g)) (λ x. accepts x ws) ≡ opened g (cond (is_close w) (closing [] (cut_at_close ws)) (before_close w (cut_at_close ws)))
open_step g w ws true is more = more ∙ sym (opened_first g w (cut_at_close ws) is) ∙ ap (λ b. opened g (cond b (closing [] (cut_at_close ws)) (before_close w (cut_at_close ws)))) (sym (open_is_no_close w is))
open_step g w ws false is more = unopened g w (cut_at_close ws) (is_close w) is

filled_first : (g : Given) (w : Word) (c : Closed) → is_open w ≡ false → filled g c ≡ filled g (before_close w c)
filled_first g w (over ws) is = refl
filled_first g w (closing ds rest) is = rw is refl

not_filled : (g : Given) (w : Word) (c : Closed) → is_open w ≡ true → false ≡ filled g (before_close w c)
not_filled g w (over ws) is = refl
not_filled g w (closing ds rest) is = rw is refl

digit_next : (g : Given) (w : Word) (ws : List Word) (b : Bool) → is_open w ≡ b → accepts (awaited.Digits g) ws ≡ filled g (cut_at_close ws)
    → taken (if_so (not b) (awaited.Digits g)) (λ x. accepts x ws) ≡ filled g (before_close w (cut_at_close ws))
digit_next g w ws true is more = not_filled g w (cut_at_close ws) is
digit_next g w ws false is more = more ∙ filled_first g w (cut_at_close ws) is

digit_step : (g : Given) (w : Word) (ws : List Word) (b : Bool) → accepts (awaited.Field g) ws ≡ fit g (cut_at_close ws) → accepts (awaited.Digits g) ws ≡ filled g (cut_at_close ws)
    → taken (cond b (Some (awaited.Field g)) (if_so (not (is_open w)) (awaited.Digits g))) (λ x. accepts x ws)
    ≡ filled g (cond b (closing [] (cut_at_close ws)) (before_close w (cut_at_close ws)))
digit_step g w ws true behind more = behind
digit_step g w ws false behind more = digit_next g w ws (is_open w) refl more

record InFields (ws : List Word) : Type 0 where
  name : (g : Given) → accepts (awaited.Field g) ws ≡ fit g (cut_at_close ws)
  opening : (g : Given) → accepts (awaited.Opening g) ws ≡ opened g (cut_at_close ws)
  digits : (g : Given) → accepts (awaited.Digits g) ws ≡ filled g (cut_at_close ws)

next_in_fields : (w : Word) (ws : List Word) → InFields ws → InFields (w ∷ ws)
unfolding cut_at_close
next_in_fields w ws more = record {
  name = λ g. field_step g w ws (is_close w) refl more.opening;
  opening = λ g. open_step g w ws (is_open w) refl (more.digits g);
  digits = λ g. digit_step g w ws (is_close w) (more.name g) (more.digits g);
}

in_fields : (ws : List Word) → InFields ws
unfolding cut_at_close
in_fields [] = record { name = λ g. refl; opening = λ g. refl; digits = λ g. refl }
in_fields (w ∷ ws) = next_in_fields w ws (in_fields ws)

length_taken : (which : Which) (n : Word) (ws : List Word) (fits : Bool) → taken (if_so fits (awaited.Field none_given)) (λ x. accepts x ws)
    ≡ is_some (cond fits (option_map (scan_form which n) (fields_say no_fields (cut_at_close ws))) None)
length_taken which n ws true =
    (in_fields ws).name none_given ∙ sym (fields_fit (cut_at_close ws) no_fields) ∙ is_some-map (scan_form which n) (fields_say no_fields (cut_at_close ws))
length_taken which n ws false = refl

pub scan_end : (which : Which) (ws : List Word) → accepts awaited.Length ws ≡ is_some (scan_of which ws)
unfolding scan_of
scan_end which [] = refl
scan_end which (n ∷ ws) = length_taken which n ws (is_number n)
