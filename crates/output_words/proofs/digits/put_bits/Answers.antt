use Rattle.std.proofs.Common.{◌≡◌, ◌-◌, ◌+◌, [], ◌∷◌, ◌++◌, ℕ, List, drop, ap, ◌∙◌, arith, append_assoc}
use Rattle.output_words.specs.Digits.{digits}
use Rattle.output_words.proofs.DigitLaws.{digits-more}
use Rattle.output_words.proofs.digits.put_bits.Goals as goal

pub loop-i-preserved : goal.loop-i-preserved
loop-i-preserved c =
    let n = c.loop-i.i - 1 in
    let up : c.loop-i.i ≡ n + 1 = omega (arith, c.loop-i-test.true) in
    let bits = c.args.bits.now in
    let start = c.args.text.now.items in
    let before = digits (drop c.loop-i.i bits) in
    record {
      within = omega (arith, c.loop-i.invariant.within);
      all = c.in_ok-push.ensures.items ∙ ap (λ (l : List ℕ). l ++ c.digit_of.result ∷ []) c.loop-i.invariant.all
          ∙ append_assoc start before (c.digit_of.result ∷ []) ∙ ap (λ d. start ++ (before ++ d ∷ [])) c.digit_of.ensures
          ∙ ap (λ (l : List ℕ). start ++ l) (digits-more bits n c.loop-i.i c.get.result up c.get.ensures);
    }
