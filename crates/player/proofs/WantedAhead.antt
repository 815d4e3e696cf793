-- The next wanted bits, as a word has them.
use Rattle.std.proofs.Common.{◌≡◌, Bool, true, false, ℕ, zero, suc, ◌+◌, ◌<◌, List, ◌∷◌, drop, refl, ap, ◌∙◌, Some, None, arith}
use Rattle.std.specs.Prelude.{Option, option_map, slice_get, is_some, if◌then◌else◌}
use Rattle.scan_vectors.specs.Held.{wanted_of}
use Rattle.scan_vectors.specs.Vector.{VectorBit, wanted_bits}
use Rattle.scan_vectors.proofs.WantedBits.{drop-at}
use Rattle.scan_vectors.specs.Vector.{differs}
use Rattle.play_model.specs.PlayingOn.{Mismatch}
use Rattle.player.specs.PlaceInPlay.{differing_bit}

module _ (v : List VectorBit) (i : ℕ) where
  abbrev rest : List VectorBit
  rest = wanted_bits (drop (i + 1) v)

  -- a bit that is not wanted is passed over
  pub passed : option_map {U = Option Bool} (λ b. b.wanted) (slice_get v i) ≡ Some None → wanted_bits (drop i v) ≡ rest
  passed e = by (slice_get v i) refl e
    where
      by : (o : Option VectorBit) → slice_get v i ≡ o → option_map {U = Option Bool} (λ b. b.wanted) o ≡ Some None → wanted_bits (drop i v) ≡ rest
      by None is e = absurd (cc)
      by (Some b) is e = let w : b.wanted ≡ None = cc in ap wanted_bits (drop-at v i b is) ∙ ap (λ (o : Option Bool). if is_some o then b ∷ rest else rest) w

  -- a wanted bit is the next one
  pub next : (bit : Bool) → option_map {U = Option Bool} (λ b. b.wanted) (slice_get v i) ≡ Some (Some bit)
      → (b : VectorBit) × (b.wanted ≡ Some bit) × (wanted_bits (drop i v) ≡ b ∷ rest)
  next bit e = by (slice_get v i) refl e
    where
      by : (o : Option VectorBit) → slice_get v i ≡ o → option_map {U = Option Bool} (λ b. b.wanted) o ≡ Some (Some bit)
          → (b : VectorBit) × (b.wanted ≡ Some bit) × (wanted_bits (drop i v) ≡ b ∷ rest)
      by None is e = absurd (cc)
      by (Some b) is e =
          let w : b.wanted ≡ Some bit = cc in
          (b, w, ap wanted_bits (drop-at v i b is) ∙ ap (λ (o : Option Bool). if is_some o then b ∷ rest else rest) w)

-- so are several
pub passed_all : (v : List VectorBit) (i n : ℕ)
    → ((k : ℕ) → k < n → option_map {U = Option Bool} (λ b. b.wanted) (slice_get v (i + k)) ≡ Some None)
    → wanted_bits (drop i v) ≡ wanted_bits (drop (i + n) v)
passed_all v i zero none = ap (λ (m : ℕ). wanted_bits (drop m v)) (omega arith)
passed_all v i (suc n) none =
    passed_all v i n (λ k less. none k (omega (arith, less))) ∙ passed v (i + n) (none n (omega arith))
    ∙ ap (λ (m : ℕ). wanted_bits (drop m v)) (omega arith)

-- a bit of which a word says nothing is not looked at
pub not_cared : (care bit : Bool) → wanted_of care bit ≡ None → care ≡ false
not_cared true bit e = absurd cc
not_cared false bit e = refl

-- a bit that is as it is wanted does not differ
abbrev differing : ℕ → VectorBit → Bool → Option Bool → Option Mismatch
differing command w bit wanted = if differs wanted bit then Some (record { command = command; part = w.part; bit = w.place }) else None

pub as-wanted : (command : ℕ) (w : VectorBit) (bit : Bool) → w.wanted ≡ Some bit → differing_bit command w bit ≡ None
as-wanted command w bit e = ap (differing command w bit) e ∙ by bit
  where
    by : (bit : Bool) → differing command w bit (Some bit) ≡ None
    by true = refl
    by false = refl
