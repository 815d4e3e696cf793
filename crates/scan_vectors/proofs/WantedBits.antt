-- The wanted bits of a vector, from a place on.
use Rattle.std.proofs.Common.{◌≡◌, Bool, true, false, ℕ, zero, suc, ◌+◌, ◌≤◌, List, [], ◌∷◌, drop, length, refl, sym, ap, ◌∙◌, arith, Some, None}
use Rattle.std.specs.Prelude.{Option, option_map, slice_get, is_some, if◌then◌else◌}
use Rattle.scan_vectors.specs.Vector.{VectorBit, wanted_bits}

-- what stands at a place, and what stands behind it
drop-there : (v : List VectorBit) (i : ℕ) (b : VectorBit) → slice_get v i ≡ Some b → drop i v ≡ b ∷ drop (suc i) v
drop-there [] zero b e = absurd (cc)
drop-there [] (suc i) b e = absurd (cc)
drop-there (x ∷ v) zero b e = let same : x ≡ b = cc in ap (λ y. y ∷ v) same
drop-there (x ∷ v) (suc i) b e = drop-there v i b e

pub drop-at : (v : List VectorBit) (i : ℕ) (b : VectorBit) → slice_get v i ≡ Some b → drop i v ≡ b ∷ drop (i + 1) v
drop-at v i b e = let next : i + 1 ≡ suc i = omega arith in drop-there v i b e ∙ ap (λ n. b ∷ drop n v) (sym next)

-- what is read of a bit is that of the vector
pub read-bit : (o : Option VectorBit) (r : Bool × Option Bool) → option_map {U = Bool × Option Bool} (λ b. (b.tdi, b.wanted)) o ≡ Some r
    → (b : VectorBit) × (o ≡ Some b) × (b.wanted ≡ r.1)
read-bit None r e = absurd (cc)
read-bit (Some b) r e = let same : (b.tdi, b.wanted) ≡ r = cc in (b, refl, ap (λ (p : Bool × Option Bool). p.1) same)

abbrev first-of : VectorBit → List VectorBit → Bool → List VectorBit
first-of b rest is = if is then b ∷ rest else rest

-- a bit that is not wanted is passed over
pub passed-over : (v : List VectorBit) (i : ℕ) (r : Bool × Option Bool) → option_map {U = Bool × Option Bool} (λ b. (b.tdi, b.wanted)) (slice_get v i) ≡ Some r
    → is_some r.1 ≡ false → wanted_bits (drop i v) ≡ wanted_bits (drop (i + 1) v)
passed-over v i r e not =
    let (b, is, w) = read-bit (slice_get v i) r e in
    ap wanted_bits (drop-at v i b is) ∙ ap (λ t. first-of b (wanted_bits (drop (i + 1) v)) t) (ap is_some w ∙ not)

-- a wanted bit is the next one
pub next-one : (v : List VectorBit) (i : ℕ) (r : Bool × Option Bool) → option_map {U = Bool × Option Bool} (λ b. (b.tdi, b.wanted)) (slice_get v i) ≡ Some r
    → is_some r.1 ≡ true → (b : VectorBit) × (slice_get v i ≡ Some b) × (wanted_bits (drop i v) ≡ b ∷ wanted_bits (drop (i + 1) v))
next-one v i r e there =
    let (b, is, w) = read-bit (slice_get v i) r e in
    (b, is, ap wanted_bits (drop-at v i b is) ∙ ap (λ t. first-of b (wanted_bits (drop (i + 1) v)) t) (ap is_some w ∙ there))

-- past the end nothing is wanted
pub none-past : (v : List VectorBit) (i : ℕ) → length v ≤ i → wanted_bits (drop i v) ≡ []
none-past [] zero e = refl
none-past [] (suc i) e = refl
none-past (b ∷ v) zero e = absurd (omega (arith, e))
none-past (b ∷ v) (suc i) e = none-past v i (omega (arith, e))
