use Rattle.std.proofs.Common.{ap, false, get_or, ◌∙◌}
use Rattle.std.proofs.lemmas.List.Elements.{All-get_or}
use Rattle.boundary.specs.Cells.{same_bit}
use Rattle.boundary.specs.Controls.{IsGroup}
use Rattle.boundary.specs.declared.controls.Group.{Group}
use Rattle.boundary.proofs.ControlLaws.{more_controlled, none_controlled}
use Rattle.boundary.proofs.controls.by_groups.Goals as goal

abbrev none : Group
none = record { first = 0; control = 0; disabling = false; cells = 0 }

pub loop-i-init : goal.loop-i-init
loop-i-init c = λ cells groups. none_controlled cells c.args.bits.now c.args.first

pub loop-i-preserved : goal.loop-i-preserved
loop-i-preserved c = λ cells groups.
    let i = c.loop-i.i in
    let g = get_or c.args.groups.now i none in
    let own = All-get_or (IsGroup cells) c.args.groups.now i none c.loop-i-test.true groups in
    more_controlled cells c.args.bits.now c.args.first g c.loop-i.words c.with_group-words.result c.is_same-disabled.result own c.if-group-first.false
    (c.is_same-disabled.ensures ∙ ap (λ b. same_bit b g.disabling) c.bit.ensures)
    c.with_group-words.ensures.on c.with_group-words.ensures.off (c.loop-i.invariant cells groups)
