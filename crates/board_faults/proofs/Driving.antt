-- What drives come to together, as ports see it.
use Rattle.std.proofs.Common.{◌≡◌, Bool, true, false, not, ◌&&◌, ◌||◌, ◌==◌, ℕ, zero, suc, ◌+◌, List, [], ◌∷◌, ◌++◌, if◌then◌else◌, refl, sym, ap, ap₂, ◌∙◌, arith, inl, inr}
use Rattle.std.specs.Prelude.{count_by}
use Rattle.std.specs.List.{list_any}
use Rattle.std.proofs.lemmas.Bool.{false≢true}
use Rattle.pin_nets.proofs.Counting.{count-cons, eq_false}
use Rattle.pin_nets.specs.declared.Drive.{Drive}
use Rattle.pin_nets.specs.declared.Level.TheVariants.{Zero, One, Float}
use Rattle.pin_nets.specs.declared.Pull.{Pull}
use Rattle.pin_nets.specs.declared.Pull.TheVariants.{Up, Down, Free}
use Rattle.pin_nets.specs.Levels.{counts_of, is_opposed, is_strong, is_weak, led_by, level_of, of_counts, one, pull_drive, reads}
use Rattle.board_model.specs.Following.{IsAmong}
use Rattle.board_faults.specs.declared.together.Driven.{Driven}
use Rattle.board_faults.specs.Together.{all_driven, driven, pulled, sees, together}

-- ---- whether there is one, and how many there are

abbrev some : ℕ → Bool
some zero = false
some (suc n) = true

not-none : (n : ℕ) → not (n == 0) ≡ some n
not-none zero = refl
not-none (suc n) = ap not (eq_false (suc n) 0 (λ e. absurd (omega (arith, e))))

any-more : {X : Type 0} (t : X → Bool) (x : X) (xs : List X) → list_any t xs ≡ some (count_by t xs) → (b : Bool) → t x ≡ b
    → list_any t (x ∷ xs) ≡ some (count_by t (x ∷ xs))
any-more t x xs later true e =
    let more : count_by t (x ∷ xs) ≡ suc (count_by t xs) = count-cons t x xs ∙ ap (λ (b : Bool). one b + count_by t xs) e ∙ omega arith in
    ap (λ (b : Bool). b || list_any t xs) e ∙ sym (ap some more)
any-more t x xs later false e =
    let none : count_by t (x ∷ xs) ≡ count_by t xs = count-cons t x xs ∙ ap (λ (b : Bool). one b + count_by t xs) e ∙ omega arith in
    ap (λ (b : Bool). b || list_any t xs) e ∙ later ∙ sym (ap some none)

any-count : {X : Type 0} (t : X → Bool) (xs : List X) → list_any t xs ≡ some (count_by t xs)
any-count t [] = refl
any-count t (x ∷ xs) = any-more t x xs (any-count t xs) (t x) refl

by-numbers : (sz so wz wo : ℕ) → reads (of_counts sz so (of_counts wz wo Float)) ≡ (not (some sz) && (some so || not (some wz)))
by-numbers zero zero zero zero = refl
by-numbers zero zero zero (suc n) = refl
by-numbers zero zero (suc m) zero = refl
by-numbers zero zero (suc m) (suc n) = refl
by-numbers zero (suc k) wz wo = refl
by-numbers (suc j) zero wz wo = refl
by-numbers (suc j) (suc k) wz wo = refl

same-sees : (z o w z' o' w' : Bool) → z ≡ z' → o ≡ o' → w ≡ w' → (not z && (o || not w)) ≡ (not z' && (o' || not w'))
same-sees z o w z' o' w' p q r = λ i. not (p i) && (q i || not (r i))

-- what ports see of drivers that are counted
pub counted_sees : (ds : List Drive) → reads (level_of ds) ≡ sees (driven ds)
counted_sees ds =
    let c = counts_of ds in
    by-numbers c.strong_zeros c.strong_ones c.weak_zeros c.weak_ones
    ∙ sym (same-sees (driven ds).zero (driven ds).one (driven ds).weak (some c.strong_zeros) (some c.strong_ones) (some c.weak_zeros)
    (any-count (is_strong false) ds) (any-count (is_strong true) ds) (any-count (is_weak false) ds))

pub opposed_is : (ds : List Drive) → is_opposed (counts_of ds) ≡ ((driven ds).zero && (driven ds).one)
opposed_is ds =
    ap₂ (λ (a b : Bool). a && b)
    (not-none (count_by (is_strong false) ds) ∙ sym (any-count (is_strong false) ds))
    (not-none (count_by (is_strong true) ds) ∙ sym (any-count (is_strong true) ds))

pub led_sees : (ds : List Drive) → reads (led_by ds) ≡ ((driven ds).one && not (driven ds).zero)
led_sees ds = by (list_any (is_strong true) ds && not (list_any (is_strong false) ds))
  where
    by : (b : Bool) → reads (if b then One else Zero) ≡ b
    by true = refl
    by false = refl

-- ---- some drives and others

or-assoc : (a b c : Bool) → ((a || b) || c) ≡ (a || (b || c))
or-assoc true b c = refl
or-assoc false b c = refl

any-both : {X : Type 0} (t : X → Bool) (xs ys : List X) → list_any t (xs ++ ys) ≡ (list_any t xs || list_any t ys)
any-both t [] ys = refl
any-both t (x ∷ xs) ys = ap (λ (b : Bool). t x || b) (any-both t xs ys) ∙ sym (or-assoc (t x) (list_any t xs) (list_any t ys))

pub driven_both : (ds es : List Drive) → driven (ds ++ es) ≡ together (driven ds) (driven es)
driven_both ds es = λ i. record {
  zero = any-both (is_strong false) ds es i;
  one = any-both (is_strong true) ds es i;
  weak = any-both (is_weak false) ds es i;
}

pub driven_pulled : (p : Pull) (ds : List Drive) → driven (pull_drive p ∷ ds) ≡ together (pulled p) (driven ds)
driven_pulled Up ds = refl
driven_pulled Down ds = refl
driven_pulled Free ds = refl

or-comm : (a b : Bool) → (a || b) ≡ (b || a)
or-comm true true = refl
or-comm true false = refl
or-comm false true = refl
or-comm false false = refl

pub together_turned : (f g : Driven) → together f g ≡ together g f
together_turned f g = λ i. record { zero = or-comm f.zero g.zero i; one = or-comm f.one g.one i; weak = or-comm f.weak g.weak i }

-- ---- one of some

pub among_any : {X : Type 0} (t : X → Bool) (x : X) (xs : List X) → IsAmong x xs → t x ≡ true → list_any t xs ≡ true
among_any t x [] among e = absurd among
among_any t x (y ∷ ys) (inl here) e = ap (λ (b : Bool). b || list_any t ys) (ap t here ∙ e)
among_any t x (y ∷ ys) (inr later) e = ap (λ (b : Bool). t y || b) (among_any t x ys later e) ∙ or-comm (t y) true

pub none_of : {X : Type 0} (t : X → Bool) (x : X) (xs : List X) → list_any t xs ≡ false → IsAmong x xs → t x ≡ false
none_of t x xs none among = by (t x) refl
  where
    by : (b : Bool) → t x ≡ b → t x ≡ false
    by true e = absurd (false≢true (sym none ∙ among_any t x xs among e))
    by false e = e

pub record Found {X : Type 0} (t : X → Bool) (xs : List X) : Type 0 where
  pub x : X
  pub among : IsAmong x xs
  pub is : t x ≡ true

found-in : {X : Type 0} (t : X → Bool) (y : X) (ys : List X) → (list_any t ys ≡ true → Found t ys) → (b : Bool) → t y ≡ b
    → list_any t (y ∷ ys) ≡ true → Found t (y ∷ ys)
found-in t y ys later true h e = record { x = y; among = inl refl; is = h }
found-in t y ys later false h e =
    let its = later (sym (ap (λ (b : Bool). b || list_any t ys) h) ∙ e) in
    record { x = its.x; among = inr its.among; is = its.is }

pub any_found : {X : Type 0} (t : X → Bool) (xs : List X) → list_any t xs ≡ true → Found t xs
any_found t [] e = absurd (false≢true e)
any_found t (y ∷ ys) e = found-in t y ys (λ h. any_found t ys h) (t y) refl e

pub among_eight : (f : Driven) → IsAmong f all_driven
among_eight f = by f.zero f.one f.weak
  where
    by : (z o w : Bool) → IsAmong (record { zero = z; one = o; weak = w }) all_driven
    by false false false = inl refl
    by true false false = inr (inl refl)
    by false true false = inr (inr (inl refl))
    by true true false = inr (inr (inr (inl refl)))
    by false false true = inr (inr (inr (inr (inl refl))))
    by true false true = inr (inr (inr (inr (inr (inl refl)))))
    by false true true = inr (inr (inr (inr (inr (inr (inl refl))))))
    by true true true = inr (inr (inr (inr (inr (inr (inr (inl refl)))))))
