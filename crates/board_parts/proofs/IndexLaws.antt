-- The number that digits write.
use Rattle.std.proofs.Common.{suc, ◌≡◌, ℕ, ◌<◌, ◌^◌, nat_lt, Bool, true, false, List, Some, None, Result, Ok, Err, refl, ap, subst, cond, length, rules, arith}
use Rattle.std.proofs.lemmas.Bool.{ltb-true, and_parts}
use Rattle.std.specs.List.{list_all}
use Rattle.std.specs.Char.{is_ascii_digit}
use Rattle.std.specs.Result.{OkIff}
use Rattle.std.specs.Str.Parse.{digits_value, digits_value_after, ParsesUnsigned}
use Rattle.std.proofs.lemmas.Str.Parse.{IsNumeralModel, numerals_by_fold, parse_digits}
use Rattle.std.proofs.lemmas.Bool.Decides.{nat_tests}
use Rattle.jt_limits.specs.Limits.{subscript_limit}
use Rattle.board_tables.specs.PinTexts.{is_number}
use Rattle.board_parts.specs.Pins.{index_of}

own : IsNumeralModel (λ ds. list_all is_ascii_digit ds ≡ true) (digits_value 10)
own = numerals_by_fold _ (search rules) (digits_value_after 10) (search rules)

some_digits : (ds : List ℕ) → is_number ds ≡ true → (0 < length ds) × (list_all is_ascii_digit ds ≡ true)
some_digits ds h = let parts = and_parts (nat_lt 0 (length ds)) (list_all is_ascii_digit ds) h in (ltb-true 0 (length ds) parts.0, parts.1)

read : {E : Type 0} (ds : List ℕ) (r : Result ℕ E) → is_number ds ≡ true → ParsesUnsigned 16 10 ds r → OkIff r ((0 < length ds) × (digits_value 10 ds < 2 ^ 16)) (digits_value 10 ds)
read ds r n h = parse_digits own 16 ds r h (some_digits ds n).1

pub read_index : {E : Type 0} (ds : List ℕ) (r : Result ℕ E) (k : ℕ) → is_number ds ≡ true → ParsesUnsigned 16 10 ds r → r ≡ Ok k → Some k ≡ index_of ds
read_index ds r k n h e =
    let it = subst (λ r. OkIff r ((0 < length ds) × (digits_value 10 ds < 2 ^ 16)) (digits_value 10 ds)) e (read ds r n h) in
    let small : nat_lt (digits_value 10 ds) (suc subscript_limit) ≡ true = grind (arith, nat_tests) in
    rw small (ap Some it.1)

pub no_index : {E : Type 0} (ds : List ℕ) (r : Result ℕ E) (e : E) → is_number ds ≡ true → ParsesUnsigned 16 10 ds r → r ≡ Err e → None ≡ index_of ds
no_index ds r e n h is =
    let it = subst (λ r. OkIff r ((0 < length ds) × (digits_value 10 ds < 2 ^ 16)) (digits_value 10 ds)) is (read ds r n h) in
    by (nat_lt (digits_value 10 ds) (suc subscript_limit)) refl it
  where
    by : (b : Bool) → nat_lt (digits_value 10 ds) (suc subscript_limit) ≡ b → ¬ ((0 < length ds) × (digits_value 10 ds < 2 ^ 16)) → None ≡ cond b (Some (digits_value 10 ds)) None
    by true small it = absurd (it ((some_digits ds n).0, ltb-true (digits_value 10 ds) (suc subscript_limit) small))
    by false small it = refl
