use Rattle.std.proofs.Common.{◌≡◌, Bool, true, false, not, ◌&&◌, ◌||◌, bit_and, if◌then◌else◌, refl, ap, ap₂, ◌∙◌}
use Rattle.jt_bits.specs.Packed.{has_bit}
use Rattle.board_faults.proofs.WordBits.{and_bit, or_bit}
use Rattle.board_faults.proofs.planes.chosen.Goals as goal

one-of : (b x y : Bool) → ((b && x) || (not b && y)) ≡ (if b then x else y)
one-of true true y = refl
one-of true false y = refl
one-of false x y = refl

pub returns : goal.returns
returns c = λ k h.
    or_bit (bit_and c.args.where_set c.args.word) (bit_and c.invert.result c.args.other) k
    ∙ ap₂ (λ (x y : Bool). x || y)
    (and_bit c.args.where_set c.args.word k)
    (and_bit c.invert.result c.args.other k ∙ ap (λ (x : Bool). x && has_bit c.args.other k) (c.invert.ensures k h))
    ∙ one-of (has_bit c.args.where_set k) (has_bit c.args.word k) (has_bit c.args.other k)
