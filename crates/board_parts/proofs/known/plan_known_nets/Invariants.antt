use Rattle.std.proofs.Common.{◌≡◌, ◌++◌, drop, map}
use Rattle.toml.specs.View.{items_view}
use Rattle.board_tables.specs.Fields.{tables_in}
use Rattle.board_tables.specs.WordView.{texts_of}
use Rattle.board_parts.specs.Pins.{unknown_in_nets}
use Rattle.board_plan.specs.View.{net}
use Rattle.board_parts.specs.Parts.{net_of}
use Rattle.board_parts.proofs.known.plan_known_nets.Given as goal

-- what is left is judged as the whole is, and the nets so far with those to come are all
abbrev pub invariant-loop-net : goal.invariant-loop-net
invariant-loop-net l =
    let names = texts_of l.names in
    let rest = tables_in (items_view (drop l.net-index l.nets)) in
    let all = tables_in (items_view l.nets) in
    record {
      known : unknown_in_nets names l.devices rest ≡ unknown_in_nets names l.devices all;
      nets : map net l.planned.items ++ map (net_of names l.devices) rest ≡ map (net_of names l.devices) all;
    }
