-- A reader or a writer that fails from some byte on.
use Rattle.std.specs.Prelude.{◌≡◌, ◌⊎◌, ◌<◌, ℕ, ◌-◌, List, length, take, min, Result, Ok, Err, IsErr}
use Rattle.jt_player.specs.declared.stop.Stop.{Stop}

-- how many bytes a call moved
abbrev pub moved : {E : Type 0} → Result ℕ E → ℕ
moved (Ok n) = n
moved (Err e) = 0

-- A call for these bytes: where none are left to move it fails, and nothing changes; else the reader or writer inside
-- is asked for as many of them as are left, no more than a piece.
abbrev pub StopCalls : {T E : Type 0} (calls : T → List ℕ → Result ℕ E → T → Type 0) → Stop T → List ℕ → Result ℕ E
    → Stop T → Type 0
StopCalls calls s bytes r t =
    ((s.left ≡ 0) × IsErr r × (t ≡ s))
    ⊎ ((0 < s.left) × calls s.inner (take (min (length bytes) (min s.left s.piece)) bytes) r t.inner
    × (t.piece ≡ s.piece) × (t.left ≡ s.left - moved r))
