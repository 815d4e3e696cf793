-- The 64 pairs of what two nets can make: bit k of a word is of the k-th.
use Rattle.std.proofs.Common.{◌≡◌, ◌<◌, ◌+◌, ◌*◌, ◌/◌, ◌%◌, ℕ, Bool, true, false, ◌&&◌, ◌||◌, List, [], ◌∷◌, if◌then◌else◌, lit<, refl, sym, ap, ◌∙◌, arith}
use Rattle.std.specs.List.{list_any}
use Rattle.std.proofs.lemmas.Bool.{agree_below_at, and_from, and_parts}
use Rattle.jt_bits.specs.Packed.{has_bit}
use Rattle.board_faults.specs.declared.planes.DrivenWords.{DrivenWords}
use Rattle.board_faults.specs.declared.together.Driven.{Driven}
use Rattle.board_faults.specs.Planes.{driven_at}
use Rattle.board_faults.specs.Together.{all_driven, some_pair}
use Rattle.board_faults.proofs.Driving.{among_any, among_eight}
use Rattle.board_faults.proofs.Showing.{quiet_and}

-- what the first makes in each, and the second
abbrev pub firsts : DrivenWords
firsts = record { zero = 0xff00_ff00_ff00_ff00; one = 0xffff_0000_ffff_0000; weak = 0xffff_ffff_0000_0000 }

abbrev pub seconds : DrivenWords
seconds = record { zero = 0xaaaa_aaaa_aaaa_aaaa; one = 0xcccc_cccc_cccc_cccc; weak = 0xf0f0_f0f0_f0f0_f0f0 }

-- ---- every pair stands at a place

-- the one of the eight at a place
abbrev eighth : ℕ → Driven
eighth k = record { zero = has_bit k 0; one = has_bit k 1; weak = has_bit k 2 }

first_at : (k : ℕ) → k < 64 → driven_at firsts k ≡ eighth (k / 8)
unfolding has_bit
first_at k h = λ i. record {
  zero = agree_below_at (λ n. has_bit 0xff00_ff00_ff00_ff00 n) (λ n. has_bit (n / 8) 0) 64 k refl h i;
  one = agree_below_at (λ n. has_bit 0xffff_0000_ffff_0000 n) (λ n. has_bit (n / 8) 1) 64 k refl h i;
  weak = agree_below_at (λ n. has_bit 0xffff_ffff_0000_0000 n) (λ n. has_bit (n / 8) 2) 64 k refl h i;
}

second_at : (k : ℕ) → k < 64 → driven_at seconds k ≡ eighth (k % 8)
unfolding has_bit
second_at k h = λ i. record {
  zero = agree_below_at (λ n. has_bit 0xaaaa_aaaa_aaaa_aaaa n) (λ n. has_bit (n % 8) 0) 64 k refl h i;
  one = agree_below_at (λ n. has_bit 0xcccc_cccc_cccc_cccc n) (λ n. has_bit (n % 8) 1) 64 k refl h i;
  weak = agree_below_at (λ n. has_bit 0xf0f0_f0f0_f0f0_f0f0 n) (λ n. has_bit (n % 8) 2) 64 k refl h i;
}

digit : Bool → ℕ
digit b = if b then 1 else 0

place : Driven → ℕ
place f = digit f.zero + (2 * digit f.one + 4 * digit f.weak)

eight-places : (z o w : Bool) → let f : Driven = record { zero = z; one = o; weak = w } in (place f < 8) × (eighth (place f) ≡ f)
unfolding has_bit digit place
eight-places false false false = (lit< tt, refl)
eight-places true false false = (lit< tt, refl)
eight-places false true false = (lit< tt, refl)
eight-places true true false = (lit< tt, refl)
eight-places false false true = (lit< tt, refl)
eight-places true false true = (lit< tt, refl)
eight-places false true true = (lit< tt, refl)
eight-places true true true = (lit< tt, refl)

divided : (i j : ℕ) → i < 8 → j < 8 → (8 * i + j < 64) × ((8 * i + j) / 8 ≡ i) × ((8 * i + j) % 8 ≡ j)
divided i j h l = (omega (arith, h, l), omega (arith, l), omega (arith, l))

-- these make a pair
record AtPlace (f g : Driven) : Type 0 where
  pub k : ℕ
  pub below : k < 64
  pub first : driven_at firsts k ≡ f
  pub second : driven_at seconds k ≡ g

pair_at : (f g : Driven) → AtPlace f g
pair_at f g =
    let one = eight-places f.zero f.one f.weak in
    let two = eight-places g.zero g.one g.weak in
    let its = divided (place f) (place g) one.0 two.0 in
    record {
      k = 8 * place f + place g;
      below = its.0;
      first = first_at (8 * place f + place g) its.0 ∙ ap eighth its.1 ∙ one.1;
      second = second_at (8 * place f + place g) its.0 ∙ ap eighth its.2 ∙ two.1;
    }

-- ---- so a word says whether there is one

no-any : (p : Driven → Bool) (xs : List Driven) → ((x : Driven) → p x ≡ false) → list_any p xs ≡ false
no-any p [] none = refl
no-any p (x ∷ xs) none = ap (λ (b : Bool). b || list_any p xs) (none x) ∙ no-any p xs none

and-false : (b : Bool) → (b && false) ≡ false
and-false true = refl
and-false false = refl

module _ (can can' : Driven → Bool) (test : Driven → Driven → Bool) (bit : ℕ → Bool)
    (bits : (k : ℕ) → k < 64 → bit k ≡ (can (driven_at firsts k) && (can' (driven_at seconds k) && test (driven_at firsts k) (driven_at seconds k)))) where
  quiet : ((k : ℕ) → k < 64 → bit k ≡ false) → some_pair can can' test ≡ false
  quiet none = no-any (λ f. can f && list_any (λ g. can' g && test f g) all_driven) all_driven (λ f. row f (can f) refl)
    where
      pair : (f g : Driven) → (can f && (can' g && test f g)) ≡ false
      pair f g =
          let at = pair_at f g in
          sym (λ i. can (at.first i) && (can' (at.second i) && test (at.first i) (at.second i))) ∙ sym (bits at.k at.below) ∙ none at.k at.below

      row : (f : Driven) (b : Bool) → can f ≡ b → (can f && list_any (λ g. can' g && test f g) all_driven) ≡ false
      row f true e =
          ap (λ (b : Bool). can f && b) (no-any (λ g. can' g && test f g) all_driven (λ g. quiet_and (can f) (can' g && test f g) (pair f g) e))
          ∙ and-false (can f)
      row f false e = ap (λ (b : Bool). b && list_any (λ g. can' g && test f g) all_driven) e

  loud : (k : ℕ) → k < 64 → bit k ≡ true → some_pair can can' test ≡ true
  loud k h is =
      let f = driven_at firsts k in
      let g = driven_at seconds k in
      let parts = and_parts (can f) (can' g && test f g) (sym (bits k h) ∙ is) in
      among_any (λ x. can x && list_any (λ y. can' y && test x y) all_driven) f all_driven (among_eight f)
      (and_from (can f) (list_any (λ y. can' y && test f y) all_driven) parts.0
      (among_any (λ y. can' y && test f y) g all_driven (among_eight g) parts.1))

  pub any_pair : (b : Bool) → (b ≡ false → (k : ℕ) → k < 64 → bit k ≡ false) → (b ≡ true → (k : ℕ) × (k < 64) × (bit k ≡ true)) → b ≡ some_pair can can' test
  any_pair true none some = let it = some refl in sym (loud it.0 it.1 it.2)
  any_pair false none some = sym (quiet (none refl))
