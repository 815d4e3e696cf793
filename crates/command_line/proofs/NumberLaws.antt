-- What a number's getter reads, as the number that its text writes.
use Rattle.std.proofs.Common.{◌≡◌, ◌-◌, ◌^◌, ◌≤◌, ◌<◌, ℕ, Bool, true, false, List, Result, Ok, Err, Option, Some, None, arith, refl, sym, ap, ◌∙◌}
use Rattle.std.specs.Prelude.{if◌then◌else◌, option_and_then}
use Rattle.std.specs.Str.Parse.{ParsesUnsigned, digits_value, without_leading_plus}
use Rattle.clap.specs.ValueTests.{is_unsigned_in}
use Rattle.clap.specs.Words.{ReadsOne}
use Rattle.clap.specs.declared.builder.value_parser.ValueParser.TheVariants as vp
use Rattle.clap.proofs.ValueTestLemmas.{accepts-Accepts, Accepts-accepts}
use Rattle.command_line.specs.Asking.{number}

choose : (b : Bool) (n : ℕ) → b ≡ true → (if b then Some n else None) ≡ Some n
choose true n is = refl
choose false n is = absurd cc

choose-none : (b : Bool) (n : ℕ) → b ≡ false → (if b then Some n else None) ≡ None
choose-none false n is = refl
choose-none true n is = absurd cc

not-true : (b : Bool) → (b ≡ true → ⊥) → b ≡ false
not-true true never = absurd (never refl)
not-true false never = refl

module _ (E : Type 0) (G : List ℕ → Result ℕ E → Type 0) (bits : ℕ) (only : (u : List ℕ) (x : Result ℕ E) → G u x → ParsesUnsigned bits 10 u x) (some : 0 < 2 ^ bits) (few : 2 ^ bits ≤ 2 ^ 64) where
  read-number : (t : List ℕ) (r : Option ℕ) → ReadsOne G t r → r ≡ number bits t
  read-number t (Some v) h =
      let parsed = only t (Ok v) h in
      let n = digits_value 10 (without_leading_plus t) in
      let is : is_unsigned_in 0 (2 ^ bits - 1) t ≡ true =
      Accepts-accepts false (vp.Unsigned 0 (2 ^ bits - 1)) t (parsed.0.0, omega (arith, few, parsed.0.1), omega arith, omega (arith, some, parsed.0.1)) in
      ap Some parsed.1 ∙ sym (choose (is_unsigned_in 0 (2 ^ bits - 1) t) n is)
  read-number t None h =
      let n = digits_value 10 (without_leading_plus t) in
      sym (choose-none (is_unsigned_in 0 (2 ^ bits - 1) t) n
      (not-true (is_unsigned_in 0 (2 ^ bits - 1) t) (λ is.
      let a = accepts-Accepts false (vp.Unsigned 0 (2 ^ bits - 1)) t is in
      only t (Err h.0) h.1 (a.0, omega (arith, some, a.3)))))

  pub number-read : (text : Option (List ℕ)) (r : Option ℕ) → (text ≡ None → r ≡ None)
      → ((t : List ℕ) → text ≡ Some t → ReadsOne G t r) → r ≡ option_and_then (number bits) text
  number-read None r none value = none refl
  number-read (Some t) r none value = read-number t r (value t refl)
