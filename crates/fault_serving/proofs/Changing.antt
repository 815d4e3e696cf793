-- What two nets tell by what changes at each capture.
use Rattle.std.proofs.Common.{◌≡◌, ◌<◌, ℕ, Bool, true, false, ◌||◌, refl, sym, ap₂, ◌∙◌, arith}
use Rattle.std.proofs.lemmas.Bool.{or_parts}
use Rattle.jt_bits.specs.Packed.{has_bit}
use Rattle.board_faults.specs.declared.kinds.Winner.{Winner}
use Rattle.fault_events.specs.declared.differing.Pulls.{Pulls}
use Rattle.fault_serving.specs.declared.planing.Changes.{Changes}
use Rattle.fault_serving.specs.declared.planing.NoteWords.{NoteWords}
use Rattle.fault_serving.specs.Planes.{IsQuiet, ChangesTell, IsToldOn, IsUntold, fails_at, stays_at, tells_at}

both-false : (a b : Bool) → a ≡ false → b ≡ false → (a || b) ≡ false
both-false a b p q = ap₂ (λ (x y : Bool). x || y) p q

module _ (winner : Winner) (p : Pulls) (one two : NoteWords) (c : Changes) (wanted : (k : ℕ) → k < 64 → has_bit c.wanted k ≡ fails_at winner p one two k)
    (stays : (k : ℕ) → k < 64 → has_bit c.stays k ≡ stays_at winner p one two k) where
  untold-at : (k : ℕ) → k < 64 → has_bit c.wanted k ≡ false → has_bit c.stays k ≡ false → tells_at winner p one two k ≡ false
  untold-at k h a b = both-false (fails_at winner p one two k) (stays_at winner p one two k) (sym (wanted k h) ∙ a) (sym (stays k h) ∙ b)

  quiet : IsUntold c → IsQuiet winner p one two
  quiet none = λ k h. untold-at k h (none k h).0 (none k h).1

  pub told_on : (before fails : Bool) → ChangesTell before c fails → IsToldOn before fails winner p one two
  told_on true fails is = is
  told_on false true is = record {
    at = is.at;
    early = is.early;
    fails = sym (wanted is.at is.early) ∙ is.wanted;
    before = λ k below. untold-at k (omega (arith, below, is.early)) (is.before k below).0 (is.before k below).1;
  }
  told_on false false is = quiet is

  -- where nothing is told, what was told before still is
  pub still_on : IsUntold c → (before : Bool) → IsToldOn before before winner p one two
  still_on none true = refl
  still_on none false = quiet none

-- what changes by either of two
pub untold_parts : (a b c : Changes) → ((k : ℕ) → has_bit c.wanted k ≡ (has_bit a.wanted k || has_bit b.wanted k))
    → ((k : ℕ) → has_bit c.stays k ≡ (has_bit a.stays k || has_bit b.stays k)) → IsUntold c → IsUntold a × IsUntold b
untold_parts a b c wanted stays none = (
  (λ k h. ((parts (has_bit a.wanted k) (has_bit b.wanted k) _ (wanted k) (none k h).0).0, (parts (has_bit a.stays k) (has_bit b.stays k) _ (stays k) (none k h).1).0)),
  (λ k h. ((parts (has_bit a.wanted k) (has_bit b.wanted k) _ (wanted k) (none k h).0).1, (parts (has_bit a.stays k) (has_bit b.stays k) _ (stays k) (none k h).1).1)),
)
  where
    parts : (x y z : Bool) → z ≡ (x || y) → z ≡ false → (x ≡ false) × (y ≡ false)
    parts x y z is e = or_parts x y (sym is ∙ e)
