-- The bits of a vector that are wanted.
use Rattle.std.proofs.Common.{◌≡◌, Bool, false, ℕ, zero, suc, ◌≤◌, List, [], ◌∷◌, length, Option, Some, option_map, slice_get, refl, ap, arith}
use Rattle.scan_vectors.specs.Vector.{VectorBit}
use Rattle.board_reasons.specs.Reasons.{is_one, wanted_at}

some_is : {A : Type 0} → (x y : A) → Some x ≡ Some y → x ≡ y
some_is x y e = cc

pub wanted_there : (vs : List VectorBit) (k : ℕ) (r : Bool × Option Bool)
    → option_map {U = Bool × Option Bool} (λ b. (b.tdi, b.wanted)) (slice_get vs k) ≡ Some r → wanted_at vs k ≡ is_one r.1
wanted_there [] k r h = absurd cc
wanted_there (v ∷ vs) zero r h = ap (λ (p : Bool × Option Bool). is_one p.1) (some_is _ r h)
wanted_there (v ∷ vs) (suc k) r h = wanted_there vs k r h

pub wanted_nowhere : (vs : List VectorBit) (k : ℕ) → length vs ≤ k → wanted_at vs k ≡ false
wanted_nowhere [] k past = refl
wanted_nowhere (v ∷ vs) zero past = absurd (omega (arith, past))
wanted_nowhere (v ∷ vs) (suc k) past = wanted_nowhere vs k (omega (arith, past))
