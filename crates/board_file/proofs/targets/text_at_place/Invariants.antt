use Rattle.std.proofs.Common.{◌≡◌, ◌+◌, drop, length, slice_get}
use Rattle.toml.specs.View.{items_view}
use Rattle.board_tables.specs.Fields.{texts_in}
use Rattle.board_file.proofs.targets.text_at_place.Given as goal

-- what is left of the place, among the texts that are left, is the place among all
abbrev pub invariant-loop-value : goal.invariant-loop-value
invariant-loop-value l =
    let rest = texts_in (items_view (drop l.value-index l.texts)) in
    let all = texts_in (items_view l.texts) in
    record {
      same : slice_get rest l.left ≡ slice_get all l.place;
      count : length rest + l.place ≡ length all + l.left;
    }
