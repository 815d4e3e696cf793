use Rattle.std.proofs.Common.{◌≡◌, drop, slice_get}
use Rattle.std.specs.List.{flat_map}
use Rattle.toml.specs.View.{items_view}
use Rattle.board_tables.specs.Fields.{tables_in}
use Rattle.board_file.specs.Wiring.{targets_of}
use Rattle.board_file.proofs.targets.target_at.Given as goal

-- what is left of the place, among the targets that are left, is the place among all
abbrev pub invariant-loop-device : goal.invariant-loop-device
invariant-loop-device l =
    slice_get (flat_map targets_of (tables_in (items_view (drop l.device-index l.devices)))) l.left ≡ slice_get (flat_map targets_of (tables_in (items_view l.devices))) l.place
