use Rattle.std.proofs.Common.{◌≡◌, ℕ, List, length}
use Rattle.board_model.specs.Cells.{Member}
use Rattle.board_chips.specs.WiredChips.{with_seen}
use Rattle.board_chips.specs.Sighted.{sighted_of}
use Rattle.board_chips.specs.Telling.{IsAt, sight}
use Rattle.board_chips.proofs.SightedLaws.{ToldUntil}
use Rattle.board_chips.proofs.chip.WiredChip.tell.Given as goal

abbrev pub invariant-loop-i : goal.invariant-loop-i
invariant-loop-i l = record {
  same : l.self ≡ with_seen l.self.chip.boundary.seen l.initial.self;
  long : length l.self.chip.boundary.seen ≡ length l.initial.self.chip.boundary.seen;
  told : (place : ℕ) (ms : List Member) → IsAt l.wiring place ms l.initial.self
      → ToldUntil (sight l.wiring ms place) l.initial.self.chip.device.cells (sighted_of l.initial.self) l.i l.self.chip.boundary.seen;
}
