use Rattle.std.proofs.Common.{◌∙◌, length, map}
use Rattle.board_plan.specs.View.{net}
use Rattle.board_plan.specs.Planned.{all_pins}
use Rattle.board_parts.proofs.TwiceLaws.{within}
use Rattle.board_parts.proofs.twice.has_pin_twice.Goals as goal

pub mark_nets-requires-clause-room : goal.mark_nets-requires-clause-room
mark_nets-requires-clause-room c =
    within c.args.devices c.args.ports (length c.deref_mut.result.now) (c.deref_mut.ensures.len ∙ c.in_ok-seen.ensures.len ∙ c.in-Some.ensures.1) (all_pins (map net c.args.nets.now)) c.requires
