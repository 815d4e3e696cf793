use Rattle.std.proofs.Common.{arith}
use Rattle.scan_registers.proofs.SameLaws.{same_all, same_more}
use Rattle.scan_registers.proofs.same.same_bits.Goals as goal

pub loop-k-preserved : goal.loop-k-preserved
loop-k-preserved c =
    same_more c.args.one.now c.args.other.now c.loop-k.k c.word.result c.word-in-loop-k.result c.word.ensures
    c.word-in-loop-k.ensures c.if-word.false c.loop-k.invariant

pub returns-clause-same : goal.returns-clause-same
returns-clause-same c = λ yes.
    same_all c.args.one.now c.args.other.now c.requires
    (λ i h. c.loop-k.invariant i (omega (arith, h, c.loop-k-test.false, c.len.ensures, c.div_ceil-k-end.ensures)))
