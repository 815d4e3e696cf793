use Rattle.std.proofs.Common.{length, map, sym, ap, subst, ◌∙◌}
use Rattle.pin_nets.specs.Building.{HasPinsBelow, net_value}
use Rattle.pin_nets.specs.Places.{IsOnce}
use Rattle.board_plan.specs.View.{net as planned_net}
use Rattle.board_plan.proofs.NumberLaws.{numbered_below, numbered_once}
use Rattle.board_chips.proofs.wiring.Wiring.new.Goals as goal

pub build-requires-clause-once : goal.build-requires-clause-once
build-requires-clause-once c =
    let are = ap (map net_value) c.deref.ensures.value ∙ c.in_ok-specs.ensures.nets in
    subst IsOnce (sym are) (numbered_once (map planned_net c.args.nets.now))

pub build-requires-clause-below : goal.build-requires-clause-below
build-requires-clause-below c =
    let are = ap (map net_value) c.deref.ensures.value ∙ c.in_ok-specs.ensures.nets in
    let pins = c.len.ensures ∙ c.in_ok-specs.pins.ok.0 ∙ ap length c.in_ok-specs.ensures.pins in
    subst (HasPinsBelow c.len.result) (sym are) (numbered_below (map planned_net c.args.nets.now) c.len.result pins)
