-- What a counted reader or writer remembers of its calls.
use Rattle.std.specs.Prelude.{ℕ, zero, suc, Bool, true, false, List, [], ◌∷◌, Result, Ok, Err, if◌then◌else◌, ◌&&◌}
use Rattle.std.specs.Prelude.{◌||◌, ◌==◌}

-- a reader, a writer or an end, the number of its calls that lost the connection, 0 or 1, and whether that call met the
-- end of input
pub record CountedView (T : Type 0) : Type 0 where
  pub inner : T
  pub failures : ℕ
  pub at_end : Bool

-- a read into `buffer`, or a write of it, that lost the connection: it failed, or moved none of the bytes asked for;
-- a call that asks for none loses nothing
abbrev pub is_lost : {E : Type 0} → Result ℕ E → List ℕ → Bool
is_lost result [] = false
is_lost (Ok zero) (x ∷ xs) = true
is_lost (Ok (suc n)) (x ∷ xs) = false
is_lost (Err e) (x ∷ xs) = true

-- a read that met the end of input: it gave none of the bytes asked for, and did not fail
abbrev pub is_end : {E : Type 0} → Result ℕ E → List ℕ → Bool
is_end result [] = false
is_end (Ok zero) (x ∷ xs) = true
is_end (Ok (suc n)) (x ∷ xs) = false
is_end (Err e) (x ∷ xs) = false

-- `failures` after a read into a buffer, or a write of it
abbrev pub lost_after : {E : Type 0} → ℕ → Result ℕ E → List ℕ → ℕ
lost_after before result buffer = if is_lost result buffer then 1 else before

-- `failures` after a flush, which has no piece
abbrev pub flushed_after : {A E : Type 0} → ℕ → Result A E → ℕ
flushed_after before (Ok x) = before
flushed_after before (Err e) = 1

-- `at_end` after a read into `buffer`: set by an end of input that is the first call counted, and kept
abbrev pub ended_after : {E : Type 0} → Bool → ℕ → Result ℕ E → List ℕ → Bool
ended_after before failures result buffer = before || (failures == 0 && is_end result buffer)
