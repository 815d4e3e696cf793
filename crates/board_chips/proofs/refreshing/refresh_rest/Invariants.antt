use Rattle.std.proofs.Common.{◌≡◌, ◌<◌, ℕ, slice_get, Some}
use Rattle.board_chips.specs.Tables.{Settled, Settles, targets}
use Rattle.board_chips.specs.declared.driving.DrivingPin.{DrivingPin}
use Rattle.board_chips.proofs.refreshing.refresh_rest.Given as goal

abbrev pub invariant-loop-it : goal.invariant-loop-it
invariant-loop-it l = record {
  nets : l.wiring.nets ≡ l.initial.wiring.nets;
  settles : Settles (targets l.chips l.initial.wiring.nets) l.initial.wiring.drives l.wiring.drives;
  done : (k : ℕ) (e : DrivingPin) → k < l.it-index → slice_get l.rest k ≡ Some e
      → Settled (targets l.chips l.initial.wiring.nets) l.wiring.drives e.pin;
}
