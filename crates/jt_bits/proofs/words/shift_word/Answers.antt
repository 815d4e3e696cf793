use Rattle.std.proofs.Common.{arith}
use Rattle.jt_bits.proofs.WordShifts.{out_bit, long_bit}
use Rattle.jt_bits.proofs.words.shift_word.Goals as goal

pub returns-then-len-lt64-clause-out : goal.returns-then-len-lt64-clause-out
returns-then-len-lt64-clause-out c = λ j h.
    out_bit c.args.words.now c.args.start.now c.args.len c.args.bits c.window.result c.lowest_bits-held.result j c.if-len-lt64.true (omega (arith, h, c.requires.few)) c.window.ensures c.lowest_bits-held.ensures

pub returns-else-len-lt64-clause-out : goal.returns-else-len-lt64-clause-out
returns-else-len-lt64-clause-out c = λ j h.
    long_bit c.args.words.now c.args.start.now c.args.len c.args.bits c.window.result c.lowest_bits-held.result j (omega (arith, c.if-len-lt64.false)) (omega (arith, h, c.requires.few)) c.window.ensures c.lowest_bits-held.ensures
