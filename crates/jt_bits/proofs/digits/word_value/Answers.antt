use Rattle.std.proofs.Common.{◌≡◌, ◌+◌, ◌*◌, ◌<◌, ℕ, List, get_or, ap, ap₂, ◌∙◌, arith}
use Rattle.std.specs.Char.{digit_value, is_ascii_hexdigit}
use Rattle.std.proofs.lemmas.List.{take_all}
use lib.Lanes.{chunk}
use Rattle.jt_bits.proofs.DigitLanes.{eight_bytes}
use Rattle.jt_bits.proofs.Solid.{digit_at, is_digit}
use Rattle.jt_bits.proofs.digits.word_value.Goals as goal

pub returns : goal.returns
returns c =
    let ds = c.args.digits.now in
    let vs = c.values_of-values.result in
    let whole : chunk 0 16 ds ≡ ds = take_all 16 ds (omega (arith, c.requires.long)) in
    let value : (k : ℕ) → k < 16 → get_or vs k 0 ≡ digit_value (get_or ds k 0) =
    λ k lt.
    let good = digit_at ds k c.requires.solid (omega (arith, c.requires.long, lt)) in
    let at = ap (λ (l : List ℕ). get_or l k 0) whole in
    c.values_of-values.ensures.values k lt (ap (λ (l : List ℕ). is_ascii_hexdigit (get_or l k 0)) whole ∙ good) ∙ ap digit_value at in
    let small : (k : ℕ) → k < 16 → get_or vs k 0 < 16 =
    λ k lt. omega (arith, value k lt, (is_digit (get_or ds k 0) (digit_at ds k c.requires.solid (omega (arith, c.requires.long, lt)))).small) in
    c.from_be_bytes.ensures
    ∙ eight_bytes ds c.pairs_of.result c.requires.long c.requires.solid c.pairs_of.ensures.long
    (λ k lt. c.pairs_of.ensures.pairs k lt (small (2 * k) (omega (arith, lt))) (small (2 * k + 1) (omega (arith, lt)))
    ∙ ap₂ (λ (a b : ℕ). a * 16 + b) (value (2 * k) (omega (arith, lt))) (value (2 * k + 1) (omega (arith, lt))))
