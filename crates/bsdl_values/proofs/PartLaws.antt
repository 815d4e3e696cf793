-- Texts in parts, one part more or less.
use Rattle.std.proofs.Common.{◌≡◌, ◌<◌, ◌≤◌, ℕ, suc, ◌+◌, add-one, Bool, true, false, ◌&&◌, nat_lt, cond, List, [], ◌∷◌, ◌++◌, length, take, drop, Some, None, refl, sym, ap, subst, ◌∙◌, arith}
use Rattle.std.specs.List.{list_all, position, position_or_len}
use Rattle.std.proofs.lemmas.Bool.Decides.{nat_tests}
use Rattle.std.proofs.lemmas.List.{append_assoc}
use Rattle.bsdl_values.specs.InstructionValues.{is_digit}
use Rattle.bsdl_values.specs.Parts.{is_comma, is_closed, onto_first, parts}

at_comma : (c : ℕ) (cs : List ℕ) → is_comma c ≡ true → parts (c ∷ cs) ≡ [] ∷ parts cs
unfolding parts
at_comma c cs is = rw is refl

at_other : (c : ℕ) (cs : List ℕ) → is_comma c ≡ false → parts (c ∷ cs) ≡ onto_first c (parts cs)
unfolding parts
at_other c cs is = rw is refl

-- ---- the first part

no_part : (text : List ℕ) → length text ≤ position_or_len is_comma text → parts text ≡ []
unfolding parts
no_part [] none = refl
no_part (c ∷ cs) none = by_front (is_comma c) refl (no_part cs)
  where
    by_front : (b : Bool) → is_comma c ≡ b → (length cs ≤ position_or_len is_comma cs → parts cs ≡ []) → parts (c ∷ cs) ≡ []
    by_front true is next = let far = rw is at none in absurd (omega (arith, far))
    by_front false is next = let far = rw is at none in at_other c cs is ∙ ap (onto_first c) (next (omega (arith, far)))

one_further : (c : ℕ) (cs : List ℕ) (k : ℕ) → (c ∷ take k cs) ∷ parts (drop (k + 1) cs) ≡ take (1 + k) (c ∷ cs) ∷ parts (drop (1 + k + 1) (c ∷ cs))
one_further c cs k =
    let next : 1 + k ≡ suc k = omega arith in
    sym (ap (λ (n : ℕ). take n (c ∷ cs) ∷ parts (drop (n + 1) (c ∷ cs))) next ∙ rw (add-one, add-one) refl)

first_part : (text : List ℕ) → position_or_len is_comma text < length text
    → parts text ≡ take (position_or_len is_comma text) text ∷ parts (drop (position_or_len is_comma text + 1) text)
first_part [] some = absurd (omega (arith, some))
first_part (c ∷ cs) some = by_front (is_comma c) refl (first_part cs)
  where
    by_front : (b : Bool) → is_comma c ≡ b
        → (position_or_len is_comma cs < length cs → parts cs ≡ take (position_or_len is_comma cs) cs ∷ parts (drop (position_or_len is_comma cs + 1) cs))
        → parts (c ∷ cs) ≡ take (position_or_len is_comma (c ∷ cs)) (c ∷ cs) ∷ parts (drop (position_or_len is_comma (c ∷ cs) + 1) (c ∷ cs))
    by_front true is next = at_comma c cs is ∙ rw is refl
    by_front false is next =
        let near = rw is at some in
        at_other c cs is ∙ ap (onto_first c) (next (omega (arith, near))) ∙ rw is (one_further c cs (position_or_len is_comma cs))

found_at : (place n : ℕ) (b : Bool) → nat_lt place n ≡ b → (k : ℕ) → cond b (Some place) None ≡ Some k → (place < n) × (place ≡ k)
found_at place n true e k is = (grind (arith, nat_tests), cc)
found_at place n false e k is = absurd cc

none_at : (place n : ℕ) (b : Bool) → nat_lt place n ≡ b → cond b (Some place) None ≡ None → n ≤ place
none_at place n true e is = absurd cc
none_at place n false e is = grind (arith, nat_tests)

pub no_comma : (text : List ℕ) → position is_comma text ≡ None → parts text ≡ []
no_comma text none =
    no_part text (none_at (position_or_len is_comma text) (length text) (nat_lt (position_or_len is_comma text) (length text)) refl none)

pub before_comma : (text : List ℕ) (k : ℕ) → position is_comma text ≡ Some k → parts text ≡ take k text ∷ parts (drop (k + 1) text)
before_comma text k some =
    let place = found_at (position_or_len is_comma text) (length text) (nat_lt (position_or_len is_comma text) (length text)) refl k some in
    subst (λ (n : ℕ). parts text ≡ take n text ∷ parts (drop (n + 1) text)) place.1 (first_part text place.0)

-- ---- one part more

digit_is_no_comma : (c : ℕ) → is_digit c ≡ true → is_comma c ≡ false
digit_is_no_comma c is = grind (arith, nat_tests, is)

both : (a b : Bool) → (a && b) ≡ true → (a ≡ true) × (b ≡ true)
both true b e = (refl, e)
both false b e = absurd cc

one_part : (digits : List ℕ) → list_all is_digit digits ≡ true → parts (digits ++ 44 ∷ []) ≡ digits ∷ []
unfolding parts
one_part [] are = refl
one_part (d ∷ ds) are =
    let two = both (is_digit d) (list_all is_digit ds) are in
    at_other d (ds ++ 44 ∷ []) (digit_is_no_comma d two.0) ∙ ap (onto_first d) (one_part ds two.1)

closed_one : (c : ℕ) → is_closed (c ∷ []) ≡ true → is_comma c ≡ true
unfolding is_closed
closed_one c closed = closed

closed_rest : (c d : ℕ) (ds : List ℕ) → is_closed (c ∷ d ∷ ds) ≡ true → is_closed (d ∷ ds) ≡ true
unfolding is_closed
closed_rest c d ds closed = closed

has_first : (text : List ℕ) (c : ℕ) → is_closed (c ∷ text) ≡ true → (p : List ℕ) × (ps : List (List ℕ)) × (parts (c ∷ text) ≡ p ∷ ps)
has_first [] c closed = ([], parts [], at_comma c [] (closed_one c closed))
has_first (d ∷ ds) c closed = by_front (is_comma c) refl (has_first ds d (closed_rest c d ds closed))
  where
    by_front : (b : Bool) → is_comma c ≡ b → ((p : List ℕ) × (ps : List (List ℕ)) × (parts (d ∷ ds) ≡ p ∷ ps))
        → (p : List ℕ) × (ps : List (List ℕ)) × (parts (c ∷ d ∷ ds) ≡ p ∷ ps)
    by_front true is next = ([], parts (d ∷ ds), at_comma c (d ∷ ds) is)
    by_front false is next = (c ∷ next.0, next.1, at_other c (d ∷ ds) is ∙ ap (onto_first c) next.2)

onto_more : (c : ℕ) (ps more : List (List ℕ)) (p : List ℕ) (rest : List (List ℕ)) → ps ≡ p ∷ rest → onto_first c (ps ++ more) ≡ onto_first c ps ++ more
onto_more c ps more p rest are = rw are refl

behind_one : (c : ℕ) (more : List ℕ) → is_comma c ≡ true → parts (c ∷ more) ≡ parts (c ∷ []) ++ parts more
unfolding parts
behind_one c more is = at_comma c more is ∙ ap (λ ps. ps ++ parts more) (sym (at_comma c [] is))

behind_none : (more : List ℕ) → parts more ≡ parts [] ++ parts more
unfolding parts
behind_none more = refl

behind_closed : (text more : List ℕ) → is_closed text ≡ true → parts (text ++ more) ≡ parts text ++ parts more
behind_closed [] more closed = behind_none more
behind_closed (c ∷ []) more closed = behind_one c more (closed_one c closed)
behind_closed (c ∷ d ∷ ds) more closed =
    by_front (is_comma c) refl (behind_closed (d ∷ ds) more (closed_rest c d ds closed)) (has_first ds d (closed_rest c d ds closed))
  where
    by_front : (b : Bool) → is_comma c ≡ b → parts (d ∷ (ds ++ more)) ≡ parts (d ∷ ds) ++ parts more
        → ((p : List ℕ) × (ps : List (List ℕ)) × (parts (d ∷ ds) ≡ p ∷ ps)) → parts (c ∷ d ∷ (ds ++ more)) ≡ parts (c ∷ d ∷ ds) ++ parts more
    by_front true is next first =
        at_comma c (d ∷ (ds ++ more)) is ∙ ap (λ (ps : List (List ℕ)). [] ∷ ps) next ∙ ap (λ ps. ps ++ parts more) (sym (at_comma c (d ∷ ds) is))
    by_front false is next first =
        at_other c (d ∷ (ds ++ more)) is ∙ ap (onto_first c) next ∙ onto_more c (parts (d ∷ ds)) (parts more) first.0 first.1 first.2
        ∙ ap (λ ps. ps ++ parts more) (sym (at_other c (d ∷ ds) is))

pub one_more : (text digits : List ℕ) → is_closed text ≡ true → list_all is_digit digits ≡ true → parts (text ++ (digits ++ 44 ∷ [])) ≡ parts text ++ digits ∷ []
one_more text digits closed are = behind_closed text (digits ++ 44 ∷ []) closed ∙ ap (λ ps. parts text ++ ps) (one_part digits are)

ends : (text : List ℕ) → is_closed (text ++ 44 ∷ []) ≡ true
unfolding is_closed
ends [] = refl
ends (c ∷ []) = refl
ends (c ∷ d ∷ ds) = ends (d ∷ ds)

pub closed_again : (text digits : List ℕ) → is_closed (text ++ (digits ++ 44 ∷ [])) ≡ true
closed_again text digits = ap is_closed (sym (append_assoc text digits (44 ∷ []))) ∙ ends (text ++ digits)
