-- Fields, one after another.
use Rattle.std.proofs.Common.{◌≡◌, ℕ, Bool, true, false, cond, List, [], ◌∷◌, ◌++◌, Option, Some, None, refl, sym, ap, ◌∙◌, append_assoc, arith}
use Rattle.std.proofs.lemmas.List.{append-nil}
use Rattle.std.proofs.lemmas.Bool.Decides.{nat_tests}
use Rattle.svf_words.specs.declared.keywords.FieldName.{FieldName}
use Rattle.svf_words.specs.Words.{Word, is_open, is_close}
use Rattle.svf_words.specs.Keywords.{field_of}
use Rattle.svf_parse.specs.Fields.{◌>>?◌, Fields, Closed, over, closing, before_close, cut_at_close, joined_digits, runs, bracket, put, fields_say}

-- digits that were read, before those that are read next
abbrev pub with_digits : List ℕ → Option (List ℕ × Closed) → Option (List ℕ × Closed)
with_digits front o = o >>? λ p. Some (front ++ p.0, p.1)

pub with_digits-nil : (o : Option (List ℕ × Closed)) → with_digits [] o ≡ o
with_digits-nil None = refl
with_digits-nil (Some p) = refl

more_joined : (front w : List ℕ) (o : Option (List ℕ)) (rest : Closed) → with_digits front ((o >>? λ h. Some (w ++ h)) >>? λ h. Some (h, rest)) ≡ with_digits (front ++ w) (o >>? λ h. Some (h, rest))
more_joined front w None rest = refl
more_joined front w (Some h) rest = ap (λ (x : List ℕ). Some (x, rest)) (sym (append_assoc front w h))

more_runs : (front : List ℕ) (w : Word) (c : Closed) → is_open w ≡ false → with_digits front (runs (before_close w c)) ≡ with_digits (front ++ w) (runs c)
more_runs front w (over ws) shut = refl
more_runs front w (closing ws rest) shut = ap (λ (b : Bool). with_digits front (cond b None (joined_digits ws >>? λ h. Some (w ++ h)) >>? λ h. Some (h, rest))) shut ∙ more_joined front w (joined_digits ws) rest

pub next_run : (front : List ℕ) (w : Word) (ws all : List Word) (total : Option (List ℕ × Closed)) → all ≡ w ∷ ws → is_close w ≡ false → is_open w ≡ false
    → with_digits front (runs (cut_at_close all)) ≡ total → with_digits (front ++ w) (runs (cut_at_close ws)) ≡ total
unfolding cut_at_close
next_run front w ws all total split shut unopened so_far =
    sym (ap (λ (x : List Word). with_digits front (runs (cut_at_close x))) split ∙ ap (λ (b : Bool). with_digits front (runs (cond b (closing [] (cut_at_close ws)) (before_close w (cut_at_close ws))))) shut ∙ more_runs front w (cut_at_close ws) unopened) ∙ so_far

pub ended_runs : (front : List ℕ) (w : Word) (ws all : List Word) (total : Option (List ℕ × Closed)) → all ≡ w ∷ ws → is_close w ≡ true
    → with_digits front (runs (cut_at_close all)) ≡ total → Some (front, cut_at_close ws) ≡ total
unfolding cut_at_close
ended_runs front w ws all total split shut so_far =
    sym (ap (λ (x : List Word). with_digits front (runs (cut_at_close x))) split ∙ ap (λ (b : Bool). with_digits front (runs (cond b (closing [] (cut_at_close ws)) (before_close w (cut_at_close ws))))) shut ∙ ap (λ (x : List ℕ). Some (x, cut_at_close ws)) (append-nil front)) ∙ so_far

opened_runs : (front : List ℕ) (w : Word) (c : Closed) → is_open w ≡ true → with_digits front (runs (before_close w c)) ≡ None
opened_runs front w (over ws) opens = refl
opened_runs front w (closing ws rest) opens = ap (λ (b : Bool). with_digits front (cond b None (joined_digits ws >>? λ h. Some (w ++ h)) >>? λ h. Some (h, rest))) opens

pub broken_runs : (front : List ℕ) (w : Word) (ws all : List Word) (total : Option (List ℕ × Closed)) → all ≡ w ∷ ws → is_close w ≡ false → is_open w ≡ true
    → with_digits front (runs (cut_at_close all)) ≡ total → None ≡ total
unfolding cut_at_close
broken_runs front w ws all total split shut opens so_far =
    sym (ap (λ (x : List Word). with_digits front (runs (cut_at_close x))) split ∙ ap (λ (b : Bool). with_digits front (runs (cond b (closing [] (cut_at_close ws)) (before_close w (cut_at_close ws))))) shut ∙ opened_runs front w (cut_at_close ws) opens) ∙ so_far

pub unended_runs : (front : List ℕ) (all : List Word) (total : Option (List ℕ × Closed)) → all ≡ [] → with_digits front (runs (cut_at_close all)) ≡ total → None ≡ total
unfolding cut_at_close
unended_runs front all total nil so_far = sym (ap (λ (x : List Word). with_digits front (runs (cut_at_close x))) nil) ∙ so_far

open_is_no_close : (w : Word) → is_open w ≡ true → is_close w ≡ false
open_is_no_close w h = grind (arith, nat_tests)

pub no_bracket : (all : List Word) → all ≡ [] → None ≡ bracket (cut_at_close all)
unfolding cut_at_close
no_bracket all nil = sym (ap (λ (x : List Word). bracket (cut_at_close x)) nil)

unopened_bracket : (w : Word) (c : Closed) → is_open w ≡ false → bracket (before_close w c) ≡ None
unopened_bracket w (over ws) shut = refl
unopened_bracket w (closing ws rest) shut = rw shut refl

first_cut : (w : Word) (c : Closed) (b : Bool) → is_open w ≡ false → bracket (cond b (closing [] c) (before_close w c)) ≡ None
first_cut w c true shut = refl
first_cut w c false shut = unopened_bracket w c shut

pub not_opened : (w : Word) (ws all : List Word) → all ≡ w ∷ ws → is_open w ≡ false → None ≡ bracket (cut_at_close all)
unfolding cut_at_close
not_opened w ws all split shut = sym (ap (λ (x : List Word). bracket (cut_at_close x)) split ∙ first_cut w (cut_at_close ws) (is_close w) shut)

opened_bracket : (w : Word) (c : Closed) → is_open w ≡ true → bracket (before_close w c) ≡ runs c
opened_bracket w (over ws) opens = refl
opened_bracket w (closing ws rest) opens = rw opens refl

pub opened : (w : Word) (ws all : List Word) → all ≡ w ∷ ws → is_open w ≡ true → runs (cut_at_close ws) ≡ bracket (cut_at_close all)
unfolding cut_at_close
opened w ws all split opens =
    sym (ap (λ (x : List Word). bracket (cut_at_close x)) split ∙ ap (λ (b : Bool). bracket (cond b (closing [] (cut_at_close ws)) (before_close w (cut_at_close ws)))) (open_is_no_close w opens) ∙ opened_bracket w (cut_at_close ws) opens)

-- ---- one field more

-- what follows where the code has read a name and then what stands in brackets
abbrev pub after_bracket : Fields → FieldName → Option (List ℕ × Closed) → Option Fields
after_bracket fs f o = o >>? λ p. put f p.0 fs >>? λ gs. fields_say gs p.1

abbrev pair_with : Closed → Option (List ℕ) → Option (List ℕ × Closed)
pair_with rest o = o >>? λ h. Some (h, rest)

named : (fs : Fields) (f : FieldName) (b : Bool) (o : Option (List ℕ)) (rest : Closed)
    → ((cond b o None) >>? λ h. put f h fs >>? λ gs. fields_say gs rest) ≡ after_bracket fs f (cond b (pair_with rest o) None)
named fs f true None rest = refl
named fs f true (Some h) rest = refl
named fs f false o rest = refl

-- a field is its name and what stands in the brackets after it
after_name : (fs : Fields) (w : Word) (c : Closed) (f : FieldName) → field_of w ≡ Some f → fields_say fs (before_close w c) ≡ after_bracket fs f (bracket c)
unfolding fields_say
after_name fs w (over ws) f name = refl
after_name fs w (closing [] rest) f name = refl
after_name fs w (closing (x ∷ ws) rest) f name = rw name (named fs f (is_open x) (joined_digits ws) rest)

no_name : (fs : Fields) (w : Word) (c : Closed) → field_of w ≡ None → fields_say fs (before_close w c) ≡ None
unfolding fields_say
no_name fs w (over ws) name = refl
no_name fs w (closing [] rest) name = refl
no_name fs w (closing (x ∷ ws) rest) name = rw name refl

close_is_no_name : (w : Word) → is_close w ≡ true → field_of w ≡ None
unfolding field_of
close_is_no_name [] h = absurd (let e : is_close [] ≡ false = refl in cc)
close_is_no_name (c ∷ cs) h = let is : c ≡ 41 = grind (arith, nat_tests) in rw is refl

name_is_no_close : (w : Word) (f : FieldName) (b : Bool) → field_of w ≡ Some f → is_close w ≡ b → b ≡ false
name_is_no_close w f true name is = absurd (let e : field_of w ≡ None = close_is_no_name w is in cc)
name_is_no_close w f false name is = refl

pub one_field : (fs : Fields) (w : Word) (ws all : List Word) (f : FieldName) (o : Option (List ℕ × Closed)) (total : Option Fields) → all ≡ w ∷ ws → Some f ≡ field_of w → o ≡ bracket (cut_at_close ws)
    → fields_say fs (cut_at_close all) ≡ total → after_bracket fs f o ≡ total
unfolding cut_at_close
one_field fs w ws all f o total split name found so_far =
    let shut = name_is_no_close w f (is_close w) (sym name) refl in
    sym (ap (λ (x : List Word). fields_say fs (cut_at_close x)) split ∙ ap (λ (b : Bool). fields_say fs (cond b (closing [] (cut_at_close ws)) (before_close w (cut_at_close ws)))) shut ∙ after_name fs w (cut_at_close ws) f (sym name) ∙ ap (after_bracket fs f) (sym found)) ∙ so_far

no_field_at : (fs : Fields) (w : Word) (c : Closed) (b : Bool) → field_of w ≡ None → fields_say fs (cond b (closing [] c) (before_close w c)) ≡ None
unfolding fields_say
no_field_at fs w c true name = refl
no_field_at fs w c false name = no_name fs w c name

pub no_field : (fs : Fields) (w : Word) (ws all : List Word) (total : Option Fields) → all ≡ w ∷ ws → None ≡ field_of w → fields_say fs (cut_at_close all) ≡ total → None ≡ total
unfolding cut_at_close
no_field fs w ws all total split name so_far = sym (ap (λ (x : List Word). fields_say fs (cut_at_close x)) split ∙ no_field_at fs w (cut_at_close ws) (is_close w) (sym name)) ∙ so_far

pub all_fields : (fs : Fields) (all : List Word) (total : Option Fields) → all ≡ [] → fields_say fs (cut_at_close all) ≡ total → Some fs ≡ total
unfolding cut_at_close fields_say
all_fields fs all total nil so_far = sym (ap (λ (x : List Word). fields_say fs (cut_at_close x)) nil) ∙ so_far

pub field_missing : (fs : Fields) (w : Word) (ws all : List Word) (f : FieldName) (total : Option Fields) → all ≡ w ∷ ws → Some f ≡ field_of w → None ≡ bracket (cut_at_close ws)
    → fields_say fs (cut_at_close all) ≡ total → None ≡ total
field_missing fs w ws all f total split name found so_far = one_field fs w ws all f None total split name found so_far

pub field_twice : (fs : Fields) (w : Word) (ws all : List Word) (f : FieldName) (h : List ℕ) (rest : Closed) (total : Option Fields) → all ≡ w ∷ ws → Some f ≡ field_of w → Some (h, rest) ≡ bracket (cut_at_close ws)
    → put f h fs ≡ None → fields_say fs (cut_at_close all) ≡ total → None ≡ total
field_twice fs w ws all f h rest total split name found twice so_far =
    let one : after_bracket fs f (Some (h, rest)) ≡ total = one_field fs w ws all f (Some (h, rest)) total split name found so_far in
    sym (ap (λ (o : Option Fields). o >>? λ gs. fields_say gs rest) twice) ∙ one

pub field_put : (fs gs : Fields) (w : Word) (ws all : List Word) (f : FieldName) (h : List ℕ) (rest : Closed) (total : Option Fields) → all ≡ w ∷ ws → Some f ≡ field_of w → Some (h, rest) ≡ bracket (cut_at_close ws)
    → put f h fs ≡ Some gs → fields_say fs (cut_at_close all) ≡ total → fields_say gs rest ≡ total
field_put fs gs w ws all f h rest total split name found placed so_far =
    let one : after_bracket fs f (Some (h, rest)) ≡ total = one_field fs w ws all f (Some (h, rest)) total split name found so_far in
    sym (ap (λ (o : Option Fields). o >>? λ gs. fields_say gs rest) placed) ∙ one
