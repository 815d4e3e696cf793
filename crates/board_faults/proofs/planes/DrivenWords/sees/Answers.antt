use Rattle.std.proofs.Common.{Bool, ◌&&◌, ◌||◌, bit_or, ap, ap₂, ◌∙◌}
use Rattle.jt_bits.specs.Packed.{has_bit}
use Rattle.board_faults.proofs.WordBits.{and_bit, or_bit}
use Rattle.board_faults.proofs.planes.DrivenWords.sees.Goals as goal

pub returns : goal.returns
returns c = λ k h.
    let d = c.args.self in
    and_bit c.invert.result (bit_or d.one c.invert-2.result) k
    ∙ ap₂ (λ (x y : Bool). x && y) (c.invert.ensures k h) (or_bit d.one c.invert-2.result k ∙ ap (λ (x : Bool). has_bit d.one k || x) (c.invert-2.ensures k h))
