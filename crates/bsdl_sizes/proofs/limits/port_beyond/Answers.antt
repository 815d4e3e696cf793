use Rattle.std.proofs.Common.{◌∙◌, ◌+◌, ap, sym, drop, Ok, Err}
use Rattle.std.proofs.lemmas.List.{at_drop_all}
use Rattle.jt_limits.specs.Limits.{limits}
use Rattle.bsdl_entity.specs.PortsView.{ports}
use Rattle.bsdl_sizes.specs.Counting.{left_behind}
use Rattle.bsdl_sizes.proofs.PortLaws.{beyond_by, group_left, then_left}
use Rattle.bsdl_sizes.proofs.limits.port_beyond.Goals as goal

pub returns-in-Err : goal.returns-in-Err
returns-in-Err c =
    let gs = c.args.groups.now in
    let i = c.loop-group.group-index in
    beyond_by (ports gs) (Err c.in-Err.start)
    (sym (sym c.loop-group.invariant ∙ group_left gs i c.group-item.result c.loop-group.left c.loop-group-test.true c.group-item.is
    ∙ ap (λ r. then_left r (ports (drop (i + 1) gs))) (sym c.left_behind.ensures ∙ c.in-Err.is)))

pub loop-group-preserved : goal.loop-group-preserved
loop-group-preserved c =
    let gs = c.args.groups.now in
    let i = c.loop-group.group-index in
    sym (group_left gs i c.group-item.result c.loop-group.left c.loop-group-test.true c.group-item.is
    ∙ ap (λ r. then_left r (ports (drop (i + 1) gs))) (sym c.left_behind.ensures ∙ c.in-Ok.is)) ∙ c.loop-group.invariant

pub returns : goal.returns
returns c =
    let gs = c.args.groups.now in
    beyond_by (ports gs) (Ok c.loop-group.left)
    (sym (at_drop_all (λ xs. left_behind c.loop-group.left (ports xs)) gs c.loop-group.group-index c.loop-group-test.false) ∙ c.loop-group.invariant)
