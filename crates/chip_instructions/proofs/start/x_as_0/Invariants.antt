use Rattle.std.proofs.Common.{◌≡◌, ℕ, ◌<◌, length, get_or, false, None, unwrap_or}
use Rattle.chip_instructions.proofs.start.x_as_0.Given as goal

abbrev pub invariant-loop-i : goal.invariant-loop-i
invariant-loop-i l = record {
  long : length l.bits ≡ length l.digits;
  below : (j : ℕ) → j < l.i → get_or l.bits j false ≡ unwrap_or (get_or l.digits j None) false;
}
