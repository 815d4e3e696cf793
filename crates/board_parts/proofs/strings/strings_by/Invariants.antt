use Rattle.std.proofs.Common.{◌≡◌, drop}
use Rattle.toml.specs.View.{items_view}
use Rattle.board_tables.specs.Fields.{texts_in}
use Rattle.board_parts.specs.Strings.{cells_of, strings_after, strings_of}
use Rattle.board_parts.proofs.strings.strings_by.Given as goal

-- the cells are those of the strings so far, and what is left is judged as the whole is
abbrev pub invariant-loop-value : goal.invariant-loop-value
invariant-loop-value l = record {
  cells : l.cells ≡ cells_of l.strings.items;
  judged : strings_after l.device l.strings.items (texts_in (items_view (drop l.value-index l.texts)))
      ≡ strings_of l.device (texts_in (items_view l.texts));
}
