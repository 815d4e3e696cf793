use Rattle.std.proofs.Common.{ℕ, ap, ◌∙◌, arith}
use Rattle.jt_bits.specs.Packed.{has_bit}
use Rattle.board_faults.proofs.WordBits.{lowest_set, no_bit, none_below}
use Rattle.fault_serving.proofs.planing.lowest.Goals as goal

pub returns-then-word-eq0-clause-none : goal.returns-then-word-eq0-clause-none
returns-then-word-eq0-clause-none c = λ k h. (h, ap (λ (n : ℕ). has_bit n k) c.if-word-eq0.true ∙ no_bit k)

pub returns-clause-none : goal.returns-clause-none
returns-clause-none c = λ k below. none_below c.args.word k c.if-word-eq0.false (omega (arith, c.ranges.word)) below

pub returns-clause-set : goal.returns-clause-set
returns-clause-set c = λ h. (lowest_set c.args.word c.if-word-eq0.false (omega (arith, c.ranges.word))).1
