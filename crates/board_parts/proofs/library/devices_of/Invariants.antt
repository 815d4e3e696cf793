use Rattle.std.proofs.Common.{◌≡◌, ◌++◌, drop}
use Rattle.std.specs.List.{filter_map}
use Rattle.toml.specs.View.{items_view}
use Rattle.board_tables.specs.Fields.{tables_in}
use Rattle.board_tables.specs.WordView.{texts_of}
use Rattle.board_parts.specs.LibraryView.{stands_at}
use Rattle.board_parts.proofs.library.devices_of.Given as goal

-- the devices so far, with those to come, are all
abbrev pub invariant-loop-device : goal.invariant-loop-device
invariant-loop-device l =
    let stands = stands_at (texts_of l.names) l.described in
    l.shared.items ++ filter_map stands (tables_in (items_view (drop l.device-index l.devices))) ≡ filter_map stands (tables_in (items_view l.devices))
