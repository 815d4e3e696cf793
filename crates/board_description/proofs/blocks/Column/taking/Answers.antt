use Rattle.std.proofs.Common.{Bool, Option, Some, ◌||◌, sym, ap, ◌∙◌}
use Rattle.jt_bits.specs.Packed.{has_bit}
use Rattle.jt_bits.proofs.PackedWords.{or_bit}
use Rattle.board_description.specs.Blocks.{column_bit}
use Rattle.board_description.specs.Covered.{takes_bit}
use Rattle.board_description.proofs.BlockLaws.{bit_is_one, bit_is_zero}
use Rattle.board_description.proofs.blocks.Column.taking.Goals as goal

pub returns-in-Some-true : goal.returns-in-Some-true
returns-in-Some-true c = λ k h.
    let it = c.args.self in
    or_bit it.x it.one k ∙ bit_is_one (has_bit it.x k) (has_bit it.one k)
    ∙ ap (λ (b : Option Bool). takes_bit (column_bit it k) b) (sym (c.in-Some-true.is ∙ ap (λ (b : Bool). Some b) c.in-Some-true.field-0-test))

pub returns-in-Some-false : goal.returns-in-Some-false
returns-in-Some-false c = λ k h.
    let it = c.args.self in
    or_bit it.x c.invert.result k ∙ ap (λ (b : Bool). has_bit it.x k || b) (c.invert.ensures k h) ∙ bit_is_zero (has_bit it.x k) (has_bit it.one k)
    ∙ ap (λ (b : Option Bool). takes_bit (column_bit it k) b) (sym (c.in-Some-false.is ∙ ap (λ (b : Bool). Some b) c.in-Some-false.field-0-test))
