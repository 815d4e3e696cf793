use Rattle.std.proofs.Common.{◌≡◌, List, map, sym, ap₂, ◌∙◌}
use Rattle.pin_nets.specs.Wired.{Net}
use Rattle.board_plan.specs.View.{net as planned_net}
use Rattle.board_faults.specs.declared.kinds.Way.{Way}
use Rattle.board_faults.specs.declared.kinds.Way.TheVariants as way
use Rattle.fault_events.specs.declared.differing.Pulls.{Pulls}
use Rattle.fault_events.specs.Captures.{Noted}
use Rattle.fault_serving.specs.Firsts.{lists_firsts}
use Rattle.fault_events.specs.Pulls.{pulls_of}
use Rattle.fault_serving.proofs.Firsts.{others_are_told}
use Rattle.fault_serving.proofs.listing.bridge_may_list.Goals as goal

pub returns : goal.returns
returns c = λ ns are fails.
    let nets : List Net = map planned_net c.args.nets.now in
    let bits = c.args.bits.now in
    let first = c.args.first in
    let second = c.args.second in
    let its : Way = way.Short first second c.args.winner in
    let pulls : c.pulls_of-pulls.result ≡ pulls_of nets its =
    λ i. record { first = c.pulls_of-pulls.ensures.first i; second = c.pulls_of-pulls.ensures.second i } in
    others_are_told bits nets first second c.args.winner ns
    (ap₂ (λ (p : Pulls) (l : List Noted). lists_firsts bits its p first second l) (sym pulls) (sym are)
    ∙ sym c.lists_firsts.ensures ∙ fails)
