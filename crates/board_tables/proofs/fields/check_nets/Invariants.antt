use Rattle.std.proofs.Common.{◌≡◌, ◌+◌, ◌≤◌, drop, []}
use Rattle.toml.specs.View.{items_view}
use Rattle.board_tables.specs.Fields.{tables_in}
use Rattle.board_tables.specs.Faults.{nets_before, unfit_net}
use Rattle.board_tables.specs.WordView.{texts_of}
use Rattle.board_tables.proofs.fields.check_nets.Given as goal

-- what is left is judged as the whole is, and counted behind those before it
abbrev pub invariant-loop-net : goal.invariant-loop-net
invariant-loop-net l = record {
  key : unfit_net (texts_of l.names) (tables_in (items_view (drop l.net-index l.nets)))
      ≡ unfit_net [] (tables_in (items_view l.nets));
  number : l.number + nets_before (texts_of l.names) (tables_in (items_view (drop l.net-index l.nets)))
      ≡ nets_before [] (tables_in (items_view l.nets));
  few : l.number ≤ l.net-index;
}
