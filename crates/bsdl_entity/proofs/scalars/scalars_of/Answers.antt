use Rattle.std.proofs.Common.{ap, sym, ◌∙◌, take}
use Rattle.std.specs.Option.{option_or}
use Rattle.bsdl_entity.specs.Scalars.{first_scalar}
use Rattle.bsdl_entity.specs.PortsView as view
use Rattle.bsdl_entity.specs.declared.ports.Group.{Group}
use Rattle.bsdl_entity.proofs.ScalarLaws.{groups_more}
use Rattle.bsdl_entity.proofs.scalars.scalars_of.Goals as goal

pub loop-group-preserved : goal.loop-group-preserved
loop-group-preserved c = λ q.
    c.in_ok-add_group.ensures q
    ∙ ap (λ o. option_or o (first_scalar (view.group c.group-item.result) q)) (c.loop-group.invariant q)
    ∙ ap (λ (g : Group). option_or (first_scalar (view.ports (take c.loop-group.group-index c.args.groups.now)) q) (first_scalar (view.group g) q)) c.group-item.is
    ∙ sym (groups_more c.args.groups.now c.loop-group.group-index c.group-item.result q c.loop-group-test.true)
