-- What is known of the next wanted bits.
use Rattle.std.specs.Prelude.{◌≡◌, ◌≤◌, ◌<◌, ◌+◌, ℕ, Bool, Option, Some, List, drop, length, option_map}
use Rattle.std.specs.Prelude.{slice_get}
use Rattle.bitbang_protocol.specs.Protocol.{read_answer}
use Rattle.jt_bits.specs.Packed.{has_bit}
use Rattle.scan_vectors.specs.Held.{wanted_of}
use Rattle.scan_vectors.specs.Vector.{VectorBit, wanted_bits}
use Rattle.player.specs.declared.word_ahead.WordAhead as declared

-- A word has what is wanted of these bits of a vector: so many from a place on.
pub record IsAhead (v : List VectorBit) (a : declared.WordAhead) : Type 0 where
  pub few : a.run.len ≤ 64
  pub inside : a.from + a.run.len ≤ length v
  pub bits : (j : ℕ) → j < a.run.len → option_map {U = Option Bool} (λ b. b.wanted) (slice_get v (a.from + j))
      ≡ Some (wanted_of (has_bit a.run.care j) (has_bit a.run.bits j))

-- The next wanted bit from a place on is this one, and an answer is as it is to be.
pub record IsExpectedBy (v : List VectorBit) (from byte i : ℕ) : Type 0 where
  pub bit : Bool
  pub told : read_answer byte ≡ Some bit
  pub there : option_map {U = Option Bool} (λ b. b.wanted) (slice_get v i) ≡ Some (Some bit)
  pub next : wanted_bits (drop from v) ≡ wanted_bits (drop i v)
