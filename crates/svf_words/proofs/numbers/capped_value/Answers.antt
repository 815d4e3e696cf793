use Rattle.std.proofs.Common.{◌≡◌, ◌+◌, ◌-◌, ◌*◌, sym, ◌∙◌, min, get_or, arith}
use Rattle.svf_words.proofs.Digits.{capped_digit}
use Rattle.svf_words.proofs.numbers.capped_value.Goals as goal

pub loop-byte-preserved : goal.loop-byte-preserved
loop-byte-preserved c =
    let step = capped_digit c.loop-byte.value c.args.digits.now c.loop-byte.byte-index c.loop-byte-test.true c.loop-byte.invariant.1 in
    let capped : c.min-value.result ≡ min 19 (c.loop-byte.value * 10 + (get_or c.args.digits.now c.loop-byte.byte-index 0 - 48)) = omega (arith, c.min-value.ensures, c.from.ensures) in
    rw capped (sym step.value ∙ c.loop-byte.invariant.0, step.digits, omega arith)
