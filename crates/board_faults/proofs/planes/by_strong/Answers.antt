use Rattle.std.proofs.Common.{if◌then◌else◌, ◌∙◌}
use Rattle.jt_bits.specs.Packed.{has_bit}
use Rattle.board_faults.proofs.planes.by_strong.Goals as goal

pub returns : goal.returns
returns c = λ k h.
    let zero = has_bit c.args.made.zero k in
    c.chosen-3.ensures k h
    ∙ (λ i. if has_bit c.args.made.one k
    then (c.chosen.ensures k h ∙ (λ j. if zero then c.same_bits.ensures k h j else c.same_bits-2.ensures k h j)) i
    else (c.chosen-2.ensures k h ∙ (λ j. if zero then c.same_bits-3.ensures k h j else c.same_bits-4.ensures k h j)) i)
