use Rattle.std.proofs.Common.{◌≡◌, ◌+◌, ◌≤◌, drop, []}
use Rattle.toml.specs.View.{items_view}
use Rattle.board_tables.specs.Fields.{tables_in}
use Rattle.board_tables.specs.Faults.{devices_before, unfit_device}
use Rattle.board_tables.specs.WordView.{texts_of}
use Rattle.board_tables.proofs.fields.check_devices.Given as goal

-- what is left is judged as the whole is, and counted behind those before it
abbrev pub invariant-loop-device : goal.invariant-loop-device
invariant-loop-device l = record {
  key : unfit_device (texts_of l.names) l.rest (tables_in (items_view (drop l.device-index l.devices)))
      ≡ unfit_device [] l.known (tables_in (items_view l.devices));
  number : l.number + devices_before (texts_of l.names) l.rest (tables_in (items_view (drop l.device-index l.devices)))
      ≡ devices_before [] l.known (tables_in (items_view l.devices));
  few : l.number ≤ l.device-index;
}
