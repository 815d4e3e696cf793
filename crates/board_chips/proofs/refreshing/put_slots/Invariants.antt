use Rattle.std.proofs.Common.{◌≡◌, ◌<◌, ◌+◌, ℕ, true, false, slice_index}
use Rattle.jt_bits.specs.Packed.{has_bit}
use Rattle.board_chips.specs.Tables.{Settled, Settles, targets}
use Rattle.board_chips.proofs.refreshing.put_slots.Given as goal

abbrev pub invariant-loop-left : goal.invariant-loop-left
invariant-loop-left l = record {
  nets : l.wiring.nets ≡ l.initial.wiring.nets;
  settles : Settles (targets l.chips l.initial.wiring.nets) l.initial.wiring.drives l.wiring.drives;
  part : (j : ℕ) → j < 64 → has_bit l.left j ≡ true → has_bit l.slots j ≡ true;
  done : (j : ℕ) → j < 64 → has_bit l.slots j ≡ true → has_bit l.left j ≡ false
      → Settled (targets l.chips l.initial.wiring.nets) l.wiring.drives (slice_index l.pins (l.at + j));
}

abbrev pub decreases-loop-left : goal.decreases-loop-left
decreases-loop-left l = l.left
