use Rattle.std.proofs.Common.{map, set, sym, ap, ◌∙◌}
use Rattle.std.proofs.lemmas.List.{map-set}
use Rattle.board_plan.specs.View.{net as planned_net}
use Rattle.board_faults.specs.Faults as spec
use Rattle.board_faults.proofs.Places.{at_map}
use Rattle.board_faults.proofs.nets.with_pull.Goals as goal

pub returns : goal.returns
returns c =
    let nets = c.args.nets.items in
    let k = c.args.net in
    let at = at_map planned_net nets k c.index_mut.result.now spec.nowhere c.requires c.index_mut.ensures.value in
    map-set planned_net nets k c.turn_pull.new.net ∙ ap (set (map planned_net nets) k) (c.turn_pull.ensures ∙ ap spec.turned_net (sym at))
