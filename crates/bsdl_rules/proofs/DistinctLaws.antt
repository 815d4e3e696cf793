-- Names of which no two are the same.
use Rattle.std.proofs.Common.{◌≡◌, ℕ, Bool, true, false, true≢false, ◌||◌, ◌&&◌, List, [], ◌∷◌, ◌++◌, refl, sym, ap, ◌∙◌, arith}
use Rattle.std.specs.Prelude.{bytes_eq, filter, not}
use Rattle.std.specs.List.{list_any}
use Rattle.std.proofs.lemmas.Slice.Eq.{bytes_eq-Decides}
use Rattle.std.proofs.lemmas.Bool.Decides.{nat_tests}
use Rattle.std.proofs.lemmas.List.Folds.{list_any-append}
use Rattle.bsdl_text.specs.Words.{upper}
use Rattle.bsdl_rules.specs.declared.naming.Position.{Position}
use Rattle.bsdl_rules.specs.Namings.{stands_before, Naming, is_repeated, repeated}
use Rattle.bsdl_rules.specs.Positions.{is_named, has_repeated}

not_before_itself : (s : Position) → stands_before s s ≡ false
not_before_itself s = grind (arith, nat_tests)

turned : (a b : List ℕ) → bytes_eq a b ≡ false → bytes_eq b a ≡ false
turned a b fails = by_test (bytes_eq b a) refl
  where
    by_test : (h : Bool) → bytes_eq b a ≡ h → bytes_eq b a ≡ false
    by_test false e = e
    by_test true e = absurd (true≢false (sym ((bytes_eq-Decides a b).1 (sym ((bytes_eq-Decides b a).0 e))) ∙ fails))

left_false : (a b : Bool) → a || b ≡ false → a ≡ false
left_false false b fails = refl
left_false true b fails = absurd (true≢false fails)

right_false : (a b : Bool) → a || b ≡ false → b ≡ false
right_false false b fails = fails
right_false true b fails = absurd (true≢false fails)

neither : (a b : Bool) → a ≡ false → b ≡ false → a || b ≡ false
neither a b e f = rw (e, f) refl

both_false : (a b : Bool) → a ≡ false → a && b ≡ false
both_false a b e = rw e refl

last_false : (a b : Bool) → b ≡ false → a && b ≡ false
last_false true b e = e
last_false false b e = refl

-- a name that none of them has repeats none of them
new_name : (ns : List Naming) (n : Naming) → is_named ns (upper n.name) ≡ false → is_repeated ns n ≡ false
new_name [] n fresh = refl
new_name (m ∷ ns) n fresh =
    neither (bytes_eq (upper m.name) (upper n.name) && stands_before m.position n.position) (is_repeated ns n)
    (both_false (bytes_eq (upper m.name) (upper n.name)) (stands_before m.position n.position) (left_false (bytes_eq (upper m.name) (upper n.name)) (is_named ns (upper n.name)) fresh))
    (new_name ns n (right_false (bytes_eq (upper m.name) (upper n.name)) (is_named ns (upper n.name)) fresh))

-- those that repeat none of some repeat none of these with a new name either
still : (all : List Naming) (n : Naming) (ns : List Naming) → list_any (is_repeated all) ns ≡ false → is_named ns (upper n.name) ≡ false → list_any (is_repeated (all ++ n ∷ [])) ns ≡ false
still all n [] none fresh = refl
still all n (m ∷ ns) none fresh =
    neither (is_repeated (all ++ n ∷ []) m) (list_any (is_repeated (all ++ n ∷ [])) ns)
    (list_any-append (λ (x : Naming). bytes_eq (upper x.name) (upper m.name) && stands_before x.position m.position) all (n ∷ [])
    ∙ neither (is_repeated all m) ((bytes_eq (upper n.name) (upper m.name) && stands_before n.position m.position) || false)
    (left_false (is_repeated all m) (list_any (is_repeated all) ns) none)
    (neither (bytes_eq (upper n.name) (upper m.name) && stands_before n.position m.position) false
    (both_false (bytes_eq (upper n.name) (upper m.name)) (stands_before n.position m.position)
    (turned (upper m.name) (upper n.name) (left_false (bytes_eq (upper m.name) (upper n.name)) (is_named ns (upper n.name)) fresh))) refl))
    (still all n ns (right_false (is_repeated all m) (list_any (is_repeated all) ns) none)
    (right_false (bytes_eq (upper m.name) (upper n.name)) (is_named ns (upper n.name)) fresh))

-- a new name more
pub still_distinct : (ns : List Naming) (n : Naming) → has_repeated ns ≡ false → is_named ns (upper n.name) ≡ false → has_repeated (ns ++ n ∷ []) ≡ false
still_distinct ns n none fresh =
    list_any-append (is_repeated (ns ++ n ∷ [])) ns (n ∷ [])
    ∙ neither (list_any (is_repeated (ns ++ n ∷ [])) ns) (is_repeated (ns ++ n ∷ []) n || false) (still ns n ns none fresh)
    (neither (is_repeated (ns ++ n ∷ []) n) false
    (list_any-append (λ (x : Naming). bytes_eq (upper x.name) (upper n.name) && stands_before x.position n.position) ns (n ∷ [])
    ∙ neither (is_repeated ns n) ((bytes_eq (upper n.name) (upper n.name) && stands_before n.position n.position) || false) (new_name ns n fresh)
    (neither (bytes_eq (upper n.name) (upper n.name) && stands_before n.position n.position) false
    (last_false (bytes_eq (upper n.name) (upper n.name)) (stands_before n.position n.position) (not_before_itself n.position)) refl)) refl)

pub named_more : (ns : List Naming) (n : Naming) (q : List ℕ) → is_named (ns ++ n ∷ []) q ≡ (is_named ns q || bytes_eq (upper n.name) q)
named_more [] n q = one (bytes_eq (upper n.name) q)
  where
    one : (b : Bool) → b || false ≡ b
    one true = refl
    one false = refl
named_more (m ∷ ns) n q = assoc (bytes_eq (upper m.name) q) (is_named (ns ++ n ∷ []) q) (is_named ns q) (bytes_eq (upper n.name) q) (named_more ns n q)
  where
    assoc : (a b c d : Bool) → b ≡ c || d → a || b ≡ (a || c) || d
    assoc true b c d e = refl
    assoc false b c d e = e

-- a name more that was not there
pub distinct_more : (before after : List ℕ → Bool) (ns all : List Naming) (n : Naming) (new : Bool) → all ≡ ns ++ n ∷ []
    → ((q : List ℕ) → before q ≡ is_named ns q) → has_repeated ns ≡ false → new ≡ true → new ≡ not (before (upper n.name))
    → ((q : List ℕ) → after q ≡ (before q || bytes_eq (upper n.name) q))
    → ((q : List ℕ) → after q ≡ is_named all q) × (has_repeated all ≡ false)
distinct_more before after ns all n new all_is named none is_new new_is put =
    let fresh : is_named ns (upper n.name) ≡ false = sym (named (upper n.name)) ∙ not_true (before (upper n.name)) (sym new_is ∙ is_new) in
    ((λ q. put q ∙ ap (λ b. b || bytes_eq (upper n.name) q) (named q) ∙ sym (named_more ns n q) ∙ ap (λ l. is_named l q) (sym all_is)), ap has_repeated all_is ∙ still_distinct ns n none fresh)
  where
    not_true : (b : Bool) → not b ≡ true → b ≡ false
    not_true false e = refl
    not_true true e = absurd (true≢false (sym e))

none_passes : (test : Naming → Bool) (ns : List Naming) → list_any test ns ≡ false → filter test ns ≡ []
none_passes test [] none = refl
none_passes test (n ∷ ns) none =
    rw (left_false (test n) (list_any test ns) none) (none_passes test ns (right_false (test n) (list_any test ns) none))

pub none_repeated : (ns : List Naming) → has_repeated ns ≡ false → repeated ns ≡ []
none_repeated ns none = none_passes (is_repeated ns) ns none
