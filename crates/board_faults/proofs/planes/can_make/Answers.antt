use Rattle.std.proofs.Common.{if◌then◌else◌, ◌∙◌}
use Rattle.jt_bits.specs.Packed.{has_bit}
use Rattle.board_faults.proofs.planes.can_make.Goals as goal

pub returns : goal.returns
returns c = λ k h.
    c.chosen.ensures k h ∙ (λ i. if has_bit c.args.made.weak k then c.by_strong.ensures k h i else c.by_strong-2.ensures k h i)
