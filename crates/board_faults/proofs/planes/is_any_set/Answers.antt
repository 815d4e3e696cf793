use Rattle.std.proofs.Common.{◌==◌, ℕ, ap, ◌∙◌, arith}
use Rattle.std.specs.Int.{trailing_zeros, w64}
use Rattle.std.proofs.lemmas.Bool.{eqb-false, eqb-true, not-false, not-true}
use Rattle.jt_bits.specs.Packed.{has_bit}
use Rattle.board_faults.proofs.WordBits.{lowest_set, no_bit}
use Rattle.board_faults.proofs.planes.is_any_set.Goals as goal

pub returns-clause-none : goal.returns-clause-none
returns-clause-none c = λ e k h.
    ap (λ (n : ℕ). has_bit n k) (eqb-true c.args.word 0 (not-false (c.args.word == 0) e)) ∙ no_bit k

pub returns-clause-some : goal.returns-clause-some
returns-clause-some c = λ e.
    let set = lowest_set c.args.word (eqb-false c.args.word 0 (not-true (c.args.word == 0) e)) (omega (arith, c.ranges.word)) in
    (trailing_zeros w64 c.args.word, set.0, set.1)
