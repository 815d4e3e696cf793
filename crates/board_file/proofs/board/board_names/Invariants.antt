use Rattle.std.proofs.Common.{◌≡◌, ◌++◌, drop, map}
use Rattle.toml.specs.View.{items_view}
use Rattle.board_tables.specs.Fields.{name_at, tables_in}
use Rattle.board_tables.specs.WordView.{texts_of}
use Rattle.board_file.proofs.board.board_names.Given as goal

-- the names so far, with those to come, are all
abbrev pub invariant-loop-device : goal.invariant-loop-device
invariant-loop-device l = texts_of l.names ++ map name_at (tables_in (items_view (drop l.device-index l.devices))) ≡ map name_at (tables_in (items_view l.devices))
