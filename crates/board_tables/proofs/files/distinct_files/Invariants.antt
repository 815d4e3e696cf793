use Rattle.std.proofs.Common.{◌≡◌, drop, fold, map}
use Rattle.toml.specs.View.{items_view}
use Rattle.board_tables.specs.Fields.{tables_in}
use Rattle.board_tables.specs.FirstPlaces.{with_name}
use Rattle.board_tables.specs.Files.{file_at}
use Rattle.board_tables.specs.Files.{distinct}
use Rattle.board_tables.specs.WordView.{texts_of}
use Rattle.board_tables.proofs.files.distinct_files.Given as goal

-- the names so far, with those to come, are all
abbrev pub invariant-loop-device : goal.invariant-loop-device
invariant-loop-device l =
    fold with_name (texts_of l.names) (map file_at (tables_in (items_view (drop l.device-index l.devices))))
    ≡ distinct (map file_at (tables_in (items_view l.devices)))
