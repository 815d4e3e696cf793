use Rattle.std.proofs.Common.{◌≡◌, ℕ, ◌<◌, Bool, true, false, not, ◌||◌, nat_eq, get_or, refl, ap, ◌∙◌, arith}
use Rattle.std.proofs.lemmas.Bool.{agree_below_at}
use Rattle.std.proofs.lemmas.Bool.Decides.{nat_tests}
use Rattle.std.specs.Char as char_specs
use Rattle.std.specs.Char.{is_ascii_hexdigit}
use Rattle.jt_bits.specs.declared.digits.TheConstants.{VALUES}
use Rattle.jt_bits.proofs.digits.digit_value.Goals as goal

same : (a b : ℕ) → nat_eq a b ≡ true → a ≡ b
same a b e = grind (arith, nat_tests)

where_digit : (digit good : Bool) → (not digit || good) ≡ true → digit ≡ true → good ≡ true
where_digit true good either is = either
where_digit false good either is = cc

table : (d : ℕ) → d < 256 → is_ascii_hexdigit d ≡ true → get_or VALUES d 0 ≡ char_specs.digit_value d
table d lt is =
    let either = agree_below_at (λ c. not (is_ascii_hexdigit c) || nat_eq (get_or VALUES c 0) (char_specs.digit_value c)) (λ c. true) 256 d refl lt in
    same (get_or VALUES d 0) (char_specs.digit_value d) (where_digit (is_ascii_hexdigit d) (nat_eq (get_or VALUES d 0) (char_specs.digit_value d)) either is)

pub returns : goal.returns
returns c = ap (λ d. get_or VALUES d 0) c.from.ensures ∙ table c.args.digit c.ranges.digit.fits c.requires
