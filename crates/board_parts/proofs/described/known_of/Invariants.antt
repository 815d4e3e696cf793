use Rattle.std.proofs.Common.{◌≡◌, ◌++◌, drop, map}
use Rattle.toml.specs.View.{items_view}
use Rattle.board_tables.specs.Fields.{tables_in}
use Rattle.board_tables.specs.WordView.{texts_of}
use Rattle.board_parts.specs.Parts.{known_in}
use Rattle.board_parts.proofs.described.known_of.Given as goal

-- what is known so far, with what is to come, is all
abbrev pub invariant-loop-device : goal.invariant-loop-device
invariant-loop-device l =
    let one = known_in (texts_of l.names) l.described in
    l.known.items ++ map one (tables_in (items_view (drop l.device-index l.devices))) ≡ map one (tables_in (items_view l.devices))
