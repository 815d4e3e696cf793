use Rattle.std.proofs.Common.{◌+◌, drop, sym, ◌∙◌}
use Rattle.bsdl_entity.proofs.AskingLaws.{group_found, group_passed, here}
use Rattle.bsdl_entity.proofs.ScalarLaws.{turned}
use Rattle.bsdl_entity.proofs.asking.is_scalar_among.Goals as goal

pub returns-then-has_name : goal.returns-then-has_name
returns-then-has_name c =
    turned c.is_none.result c.group-item.result.range c.is_none.ensures
    ∙ sym (group_found c.group-item.result (drop (c.loop-group.group-index + 1) c.args.groups.now) c.args.name.now (sym c.has_name.ensures ∙ c.if-has_name.true))
    ∙ sym (here c.args.groups.now c.loop-group.group-index c.group-item.result c.args.name.now c.loop-group-test.true c.group-item.is c.loop-group.invariant)

pub loop-group-preserved : goal.loop-group-preserved
loop-group-preserved c =
    here c.args.groups.now c.loop-group.group-index c.group-item.result c.args.name.now c.loop-group-test.true c.group-item.is c.loop-group.invariant
    ∙ group_passed c.group-item.result (drop (c.loop-group.group-index + 1) c.args.groups.now) c.args.name.now (sym c.has_name.ensures ∙ c.if-has_name.false)
