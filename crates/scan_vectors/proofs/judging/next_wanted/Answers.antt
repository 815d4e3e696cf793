use Rattle.std.proofs.Common.{sym, ◌∙◌, arith}
use Rattle.scan_vectors.specs.Held.{bits}
use Rattle.scan_vectors.proofs.WantedBits.{next-one, none-past, passed-over}
use Rattle.scan_vectors.proofs.judging.next_wanted.Goals as goal

pub returns-then-is_some : goal.returns-then-is_some
returns-then-is_some c =
    let (b, is, eq) = next-one (bits c.args.vector.now) c.loop-i.i c.bit.result c.bit.ensures (sym c.is_some.ensures ∙ c.if-is_some.true) in
    (omega (arith, c.loop-i-test.true, c.len-i-end.ensures), b, is, c.loop-i.invariant ∙ eq)

pub loop-i-preserved : goal.loop-i-preserved
loop-i-preserved c =
    c.loop-i.invariant ∙ passed-over (bits c.args.vector.now) c.loop-i.i c.bit.result c.bit.ensures (sym c.is_some.ensures ∙ c.if-is_some.false)

pub returns : goal.returns
returns c =
    c.loop-i.invariant ∙ none-past (bits c.args.vector.now) c.loop-i.i (omega (arith, c.loop-i-test.false, c.len-i-end.ensures))
