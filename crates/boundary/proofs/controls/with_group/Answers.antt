use Rattle.std.proofs.Common.{◌&&◌, ◌||◌, not, Bool, sym, ap, ◌∙◌}
use Rattle.jt_bits.specs.Packed.{has_bit}
use Rattle.jt_bits.proofs.PackedWords.{or_bit}
use Rattle.boundary.proofs.controls.with_group.Goals as goal

pub returns-then-disabled-clause-off : goal.returns-then-disabled-clause-off
returns-then-disabled-clause-off c = λ j.
    or_bit c.args.cells c.args.words.off j
    ∙ ap (λ (b : Bool). (b && has_bit c.args.cells j) || has_bit c.args.words.off j) (sym c.if-disabled.true)

pub returns-else-disabled-clause-on : goal.returns-else-disabled-clause-on
returns-else-disabled-clause-on c = λ j.
    or_bit c.args.cells c.args.words.on j
    ∙ ap (λ (b : Bool). (not b && has_bit c.args.cells j) || has_bit c.args.words.on j) (sym c.if-disabled.false)
