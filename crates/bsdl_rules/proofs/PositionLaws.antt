-- Places in order.
use Rattle.std.proofs.Common.{◌≡◌, ℕ, Bool, true, false, ◌||◌, ◌&&◌, cond, List, [], ◌∷◌, ◌++◌, refl, sym, ap, ◌∙◌, arith}
use Rattle.std.specs.Prelude.{Option, Some, None, bytes_eq, filter}
use Rattle.std.proofs.lemmas.Slice.Eq.{bytes_eq-Decides}
use Rattle.std.proofs.lemmas.Bool.Decides.{nat_tests}
use Rattle.bsdl_rules.specs.declared.naming.Position.{Position}
use Rattle.bsdl_rules.specs.Namings.{stands_before, Naming, earliest}
use Rattle.bsdl_rules.specs.Positions.{begins_before, either}

pub before_trans : (p q r : Position) → stands_before p q ≡ true → stands_before q r ≡ true → stands_before p r ≡ true
before_trans p q r a b = grind (arith, nat_tests)

pub not_before_trans : (p q r : Position) → stands_before p q ≡ false → stands_before q r ≡ false → stands_before p r ≡ false
not_before_trans p q r a b = grind (arith, nat_tests)

three : (a b c : Naming) → either (either (Some a) (Some b)) (Some c) ≡ either (Some a) (either (Some b) (Some c))
three a b c = by_tests (stands_before b.position a.position) (stands_before c.position b.position) (stands_before c.position a.position) refl refl refl
  where
    by_tests : (x y z : Bool) → stands_before b.position a.position ≡ x → stands_before c.position b.position ≡ y → stands_before c.position a.position ≡ z → either (either (Some a) (Some b)) (Some c) ≡ either (Some a) (either (Some b) (Some c))
    by_tests true true true e f g = rw (e, f, g) refl
    by_tests true true false e f g = absurd (cc (before_trans c.position b.position a.position f e))
    by_tests true false z e f g = rw (e, f, e) refl
    by_tests false true true e f g = rw (e, f, g) refl
    by_tests false true false e f g = rw (e, f, g) refl
    by_tests false false true e f g = absurd (cc (not_before_trans c.position b.position a.position f e))
    by_tests false false false e f g = rw (e, f, g, e) refl

pub either_assoc : (a b c : Option Naming) → either (either a b) c ≡ either a (either b c)
either_assoc None b c = refl
either_assoc (Some a) None c = refl
either_assoc (Some a) (Some b) None = refl
either_assoc (Some a) (Some b) (Some c) = three a b c

-- the earliest of two lists
pub earliest_of : (ms ns : List Naming) → earliest (ms ++ ns) ≡ either (earliest ms) (earliest ns)
earliest_of [] ns = refl
earliest_of (m ∷ ms) ns = ap (either (Some m)) (earliest_of ms ns) ∙ sym (either_assoc (Some m) (earliest ms) (earliest ns))

or_false : (b : Bool) → (b || false) ≡ b
or_false true = refl
or_false false = refl

-- a name's first place, once it is given here too
pub first_kept : (get : List ℕ → Option Position) (key name q : List ℕ) (first position s : Position) → key ≡ name → stands_before first s ≡ (begins_before (get key) s || stands_before position s)
    → begins_before (cond (bytes_eq key q) (Some first) (get q)) s ≡ (begins_before (get q) s || (bytes_eq name q && stands_before position s))
first_kept get key name q first position s same least = by_test (bytes_eq key q) refl
  where
    by_test : (b : Bool) → bytes_eq key q ≡ b → begins_before (cond (bytes_eq key q) (Some first) (get q)) s ≡ (begins_before (get q) s || (bytes_eq name q && stands_before position s))
    by_test true is =
        let here : key ≡ q = (bytes_eq-Decides key q).0 is in
        let there : bytes_eq name q ≡ true = ap (λ (n : List ℕ). bytes_eq n q) (sym same) ∙ is in
        rw (is, there, ← here) least
    by_test false is =
        let there : bytes_eq name q ≡ false = ap (λ (n : List ℕ). bytes_eq n q) (sym same) ∙ is in
        rw (is, there) (sym (or_false (begins_before (get q) s)))

-- one name more on the way to the earliest
pub repeat_step : (test : Naming → Bool) (all rest : List Naming) (first after : Option Naming) (n : Naming) → either first (earliest (filter test (n ∷ rest))) ≡ earliest (filter test all)
    → after ≡ cond (test n) (either first (Some n)) first → either after (earliest (filter test rest)) ≡ earliest (filter test all)
repeat_step test all rest first after n so_far then_is = by_test (test n) refl
  where
    by_test : (b : Bool) → test n ≡ b → either after (earliest (filter test rest)) ≡ earliest (filter test all)
    by_test true is =
        let now : after ≡ either first (Some n) = then_is ∙ rw is refl in
        let whole : either first (earliest (n ∷ filter test rest)) ≡ earliest (filter test all) = rw is at so_far in
        rw now (either_assoc first (Some n) (earliest (filter test rest)) ∙ whole)
    by_test false is =
        let now : after ≡ first = then_is ∙ rw is refl in
        let whole : either first (earliest (filter test rest)) ≡ earliest (filter test all) = rw is at so_far in
        rw now whole
