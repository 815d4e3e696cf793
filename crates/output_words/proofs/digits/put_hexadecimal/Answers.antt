use Rattle.std.proofs.Common.{◌-◌, ◌++◌, ℕ, List, sym, ap, ◌∙◌, arith}
use Rattle.jt_bits.specs.Hex.{hex_digit_of}
use Rattle.output_words.specs.Digits.{hexadecimal}
use Rattle.output_words.proofs.DigitLaws.{grow, hexadecimal_down}
use Rattle.output_words.proofs.digits.put_hexadecimal.Goals as goal

pub loop-k-preserved : goal.loop-k-preserved
loop-k-preserved c =
    let bits = c.args.bits.now in
    let k = c.loop-k.k - 1 in
    let text = c.loop-k.text.items in
    grow text (hexadecimal k bits) c.push.new.self.items c.hex_digit.result (hex_digit_of bits k) c.in_ok-push.ensures.items c.hex_digit.ensures
    ∙ sym (ap (λ (l : List ℕ). text ++ l) (hexadecimal_down bits c.loop-k.k (omega (arith, c.loop-k-test.true)))) ∙ c.loop-k.invariant
