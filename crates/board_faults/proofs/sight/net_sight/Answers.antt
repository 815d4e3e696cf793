use Rattle.std.proofs.Common.{◌≡◌, List, map, ap, ◌∙◌}
use Rattle.pin_nets.specs.declared.Pin.{Pin}
use Rattle.board_plan.specs.View.{net as planned_net}
use Rattle.board_faults.specs.Sights.{any_read_in, makes_in, net_sight}
use Rattle.board_faults.specs.Together.{table}
use Rattle.board_faults.proofs.sight.net_sight.Goals as goal

pub returns : goal.returns
returns c =
    let tables = map (λ t. t.items) c.args.ports.now in
    let can = c.table_of.ensures ∙ ap (λ (ps : List Pin). table (makes_in tables ps)) c.deref.ensures.value in
    let read = c.is_any_read.ensures ∙ ap (any_read_in tables) c.deref-2.ensures.value in
    λ i. record { can = can i; read = read i }
