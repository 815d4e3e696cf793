use Rattle.std.proofs.Common.{◌≡◌, ◌<◌, ◌≤◌, ℕ, length, map, slice_get, Some}
use Rattle.board_chips.specs.Driving.{cells_of}
use Rattle.board_chips.specs.WiredChips.{held_of}
use Rattle.board_chips.specs.Tables.{IsRefreshed, Settles, targets}
use Rattle.board_chips.specs.declared.driving.Block.{Block}
use Rattle.board_chips.proofs.refreshing.refresh_blocks.Given as goal

abbrev pub invariant-loop-i : goal.invariant-loop-i
invariant-loop-i l = record {
  nets : l.wiring.nets ≡ l.initial.wiring.nets;
  settles : Settles (targets l.chips l.initial.wiring.nets) l.initial.wiring.drives l.wiring.drives;
  long : length l.put ≡ length l.initial.put;
  rest : (k : ℕ) → l.i ≤ k → slice_get l.put k ≡ slice_get l.initial.put k;
  done : (k : ℕ) (b : Block) → k < l.i → slice_get l.blocks k ≡ Some b
      → IsRefreshed (map cells_of l.chips) (map held_of l.chips) (targets l.chips l.initial.wiring.nets) l.wiring.drives l.pins l.put k b;
}
