use Rattle.std.proofs.Common.{◌<◌, length, sym, ap, ◌∙◌, arith}
use Rattle.std.proofs.lemmas.Option.{get_or_from_slice_get}
use Rattle.bsdl_device.specs.Device.{Pattern}
use Rattle.bsdl_device.specs.Opcodes.{matches}
use Rattle.chip_instructions.proofs.DecodeLaws.{matches_length, digit_differs, digit_same, digit_free}
use Rattle.chip_instructions.proofs.decoding.is_opcode.Goals as goal
use Rattle.chip_instructions.proofs.decoding.is_opcode.Goals.{in-Some+else-get-wanted, in_default}

pub returns-then-digits-len : goal.returns-then-digits-len
returns-then-digits-len c =
    sym (matches_length c.args.pattern.now c.args.latch.now (λ e. c.if-digits-len.true (omega (arith, e, ap length c.bits-digits.ensures, c.len.ensures))))

pub returns-then-get-wanted : goal.returns-then-get-wanted
returns-then-get-wanted c =
    let p = c.bits-digits.result.now in
    let bits = c.args.latch.now in
    digit_differs p bits c.loop-i.i _ c.in-Some.wanted c.get.result (omega (arith, c.loop-i-test.true)) (omega (arith, c.loop-i-test.true, c.if-digits-len.false, c.len.ensures))
    c.loop-i.invariant c.in-Some.is (get_or_from_slice_get bits c.loop-i.i c.get.result c.get.result c.get.ensures) c.if-get-wanted.true
    ∙ ap (λ (q : Pattern). matches q bits) c.bits-digits.ensures

pub loop-i-preserved : goal.loop-i-preserved
loop-i-preserved c =
    let p = c.bits-digits.result.now in
    let bits = c.args.latch.now in
    let h : c.loop-i.i < length p = omega (arith, c.loop-i-test.true) in
    let k : c.loop-i.i < length bits = omega (arith, c.loop-i-test.true, c.if-digits-len.false, c.len.ensures) in
    elim c.match-digits-i.branch [
      | in-Some+else-get-wanted w ↦ digit_same p bits c.loop-i.i _ w.in-Some.wanted w.get.result h k c.loop-i.invariant w.in-Some.is (get_or_from_slice_get bits c.loop-i.i w.get.result w.get.result w.get.ensures) w.if-get-wanted.false
      | in_default w ↦ digit_free p bits c.loop-i.i _ h k c.loop-i.invariant w.in_default.is
    ]
