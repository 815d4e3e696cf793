-- A buffer that is filled from the front with what waits.
use Rattle.std.proofs.Common.{◌≡◌, ℕ, zero, suc, ◌<◌, ◌≤◌, List, [], ◌∷◌, ◌++◌, length, take, refl, ap, arith, min}

-- the filled front of a buffer
pub filled_front : (waiting rest : List ℕ) (n : ℕ) → n ≤ length waiting → take n (take n waiting ++ rest) ≡ take n waiting
filled_front waiting rest zero h = refl
filled_front [] rest (suc n) h = absurd (omega arith)
filled_front (w ∷ waiting) rest (suc n) h = ap (λ r. w ∷ r) (filled_front waiting rest n (omega arith))

-- nothing was given where there was room: nothing waits
pub nothing_waits : (waiting : List ℕ) (n size : ℕ) → n ≡ min size (length waiting) → n ≡ 0 → 0 < size → waiting ≡ []
nothing_waits [] n size e none room = refl
nothing_waits (w ∷ waiting) n size e none room = absurd (omega arith)
