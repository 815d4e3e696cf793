use Rattle.std.proofs.Common.{refl, arith}
use Rattle.std.specs.Int.Bits.{bit_xor}
use Rattle.std.proofs.lemmas.Nat.{and_le_r}
use Rattle.jt_bits.proofs.Lists.{none_differs, first_differs}
use Rattle.jt_bits.proofs.first_bad_bit.Goals as goal

pub returns-then-bad-eq0 : goal.returns-then-bad-eq0
returns-then-bad-eq0 c = none_differs c.args.got c.args.want c.args.mask c.if-bad-eq0.true

pub returns : goal.returns
returns c = first_differs c.args.got c.args.want c.args.mask _ c.if-bad-eq0.false (omega (arith, and_le_r (bit_xor c.args.got c.args.want) c.args.mask, c.ranges.mask)) refl
