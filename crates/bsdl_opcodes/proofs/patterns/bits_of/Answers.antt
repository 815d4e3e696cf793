use Rattle.std.proofs.Common.{◌<◌, ◌+◌, ◌-◌, length, take, get_or, ap, ◌∙◌, arith}
use Rattle.std.proofs.Math.ListN.{length-set}
use Rattle.bsdl_opcodes.proofs.BitLaws.{bit_more, same_digit}
use Rattle.bsdl_opcodes.proofs.patterns.bits_of.Goals as goal

pub loop-i-preserved : goal.loop-i-preserved
loop-i-preserved c =
    let ds = c.args.digits.now in
    let i = c.loop-i.i in
    let within : i < length ds = c.loop-i-test.true in
    let place : length ds - 1 - i < length ds = omega (arith, within) in
    let digit = get_or ds (length ds - 1 - i) 0 in
    record {
      len = ap length c.set.ensures ∙ simp length-set c.loop-i.invariant.len;
      front = ap (λ bs. take (i + 1) bs) c.set.ensures ∙ bit_more ds c.loop-i.bits i digit c.loop-i.invariant.len within (same_digit ds (length ds - 1 - i) 0 digit place) c.loop-i.invariant.front;
    }
