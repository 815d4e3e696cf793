use Rattle.std.proofs.Common.{arith}
use Rattle.std.proofs.lemmas.Nat.{shr_le}
use Rattle.player.proofs.WordBits.{no_bit_left, zero_below, lowest_within}
use Rattle.player.proofs.word_ahead.zeros_from.Goals as goal

pub returns-then-rest-eq0-clause-zeros : goal.returns-then-rest-eq0-clause-zeros
returns-then-rest-eq0-clause-zeros c = λ k less. no_bit_left c.args.word c.args.j k (omega (arith, c.if-rest-eq0.true))

pub returns-else-rest-eq0-clause-within : goal.returns-else-rest-eq0-clause-within
returns-else-rest-eq0-clause-within c =
    let le = shr_le c.args.word c.args.j in
    lowest_within c.args.word c.args.j (omega (arith, c.ranges.word.fits)) (omega (arith, c.if-rest-eq0.false)) (omega (arith, le, c.ranges.word.fits))

pub returns-else-rest-eq0-clause-zeros : goal.returns-else-rest-eq0-clause-zeros
returns-else-rest-eq0-clause-zeros c = λ k less.
    let le = shr_le c.args.word c.args.j in
    zero_below c.args.word c.args.j k (omega (arith, c.if-rest-eq0.false)) (omega (arith, le, c.ranges.word.fits)) less
