-- Bits packed into words of 64, the lowest bit of the first word first, and read round and round from a start.
use Rattle.std.specs.Prelude.{ℕ, ◌≡◌, ◌≢◌, ◌<◌, ◌≤◌, ◌+◌, ◌*◌, ◌/◌, ◌%◌, ◌==◌, Bool, List, length, map, slice_index}
use Rattle.std.specs.Int.{bit_at}
use Rattle.std.specs.List.{range_with_len}

-- a bit of a word
unfoldable pub has_bit : ℕ → ℕ → Bool
has_bit word j = bit_at word j == 1

-- the bit at a place of the words
unfoldable pub packed_bit : List ℕ → ℕ → Bool
packed_bit words place = has_bit (slice_index words (place / 64)) (place % 64)

-- so many bits from a start on, after the last place the first again
unfoldable pub bits_in_words : List ℕ → ℕ → ℕ → List Bool
bits_in_words words start len = map (λ i. packed_bit words ((start + i) % (64 * length words))) (range_with_len 0 len)

-- as few words as hold so many bits
abbrev pub FewWords : List ℕ → ℕ → Type 0
FewWords words len = (len ≤ 64 * length words) × (64 * length words < len + 64)

-- words with n bits put from a place on, the lowest of `bits` first, and no other bit changed
pub record RunPut (old new : List ℕ) (place bits n : ℕ) : Type 0 where
  pub here : (j : ℕ) → j < n → packed_bit new ((place + j) % (64 * length old)) ≡ has_bit bits j
  pub others : (q : ℕ) → ((j : ℕ) → j < n → q ≢ (place + j) % (64 * length old)) → packed_bit new q ≡ packed_bit old q
