-- A run of a list's bits that is put or copied at once.
use Rattle.std.specs.Prelude.{ℕ, ◌≡◌, ◌<◌, ◌≤◌, ◌+◌, Bool, List, ◌++◌, length, take, drop}
use Rattle.jt_bits.specs.Packed.{has_bit}
use Rattle.jt_bits.specs.Words.{bit_of}

-- a list with n bits put from a place on, the lowest of `bits` first, and no other bit changed
pub record RunSet (old new : List Bool) (at bits n : ℕ) : Type 0 where
  pub long : length new ≡ length old
  pub here : (j : ℕ) → j < n → bit_of new (at + j) ≡ has_bit bits j
  pub below : (i : ℕ) → i < at → bit_of new i ≡ bit_of old i
  pub above : (i : ℕ) → i < length old → at + n ≤ i → bit_of new i ≡ bit_of old i

-- a list whose n bits from a place on are those of another list from a place of it on
abbrev pub copied : (to : List Bool) (at : ℕ) (from : List Bool) (from_at n : ℕ) → List Bool
copied to at from from_at n = take at to ++ take n (drop from_at from) ++ drop (at + n) to
