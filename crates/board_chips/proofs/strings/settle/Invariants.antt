use Rattle.std.proofs.Common.{◌≡◌, ℕ, false, map, slice_get, take}
use Rattle.std.specs.List.{list_any}
use Rattle.board_model.specs.Following.{after_strings}
use Rattle.board_chips.specs.WiredChips.{held_of}
use Rattle.board_chips.specs.Strings.{less_core, placed_of, puts}
use Rattle.board_chips.specs.Wires.{IsWired}
use Rattle.board_chips.proofs.strings.settle.Given as goal

abbrev pub invariant-loop-string : goal.invariant-loop-string
invariant-loop-string l = record {
  nets : l.wiring.nets ≡ l.initial.wiring.nets;
  wired : IsWired l.chips l.wiring;
  held : map held_of l.chips
      ≡ after_strings l.initial.wiring.nets (map placed_of (take l.string-index l.strings)) (map held_of l.initial.chips);
  same : map less_core l.chips ≡ map less_core l.initial.chips;
  others : (k : ℕ) → list_any (puts k) (take l.string-index l.strings) ≡ false
      → slice_get l.wiring.drives k ≡ slice_get l.initial.wiring.drives k;
}
