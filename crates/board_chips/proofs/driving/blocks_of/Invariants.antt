use Rattle.std.proofs.Common.{◌≡◌, ◌*◌, ℕ, length, take}
use Rattle.board_chips.specs.Blocks.{AreSlots}
use Rattle.board_chips.specs.Tables.{AreDrivenBelow}
use Rattle.board_chips.proofs.driving.blocks_of.Given as goal

abbrev pub invariant-loop-it : goal.invariant-loop-it
invariant-loop-it l = record {
  long : length l.pins.items ≡ 64 * length l.blocks.items;
  slots : (n : ℕ) → AreDrivenBelow n l.driving → AreSlots (take l.it-index l.driving) n l.blocks.items l.pins.items;
}
