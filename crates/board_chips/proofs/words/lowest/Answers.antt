use Rattle.std.proofs.Common.{◌≡◌, ◌<◌, ◌^◌, ◌==◌, ℕ, true, ap}
use Rattle.std.specs.Int.{trailing_zeros, w64}
use Rattle.std.proofs.lemmas.Nat.Bits.{bit_at-trailing_zeros}
use Rattle.jt_bits.specs.Packed.{has_bit}
use Rattle.board_chips.proofs.words.lowest.Goals as goal

marked : (word : ℕ) → 0 < word → word < 2 ^ 64 → has_bit word (trailing_zeros w64 word) ≡ true
unfolding has_bit
marked word some fits = ap (λ (n : ℕ). n == 1) (bit_at-trailing_zeros w64 word some fits).1

pub returns-clause-within : goal.returns-clause-within
returns-clause-within c = (bit_at-trailing_zeros w64 c.args.word c.requires c.ranges.word.fits).0

pub returns-clause-marked : goal.returns-clause-marked
returns-clause-marked c = marked c.args.word c.requires c.ranges.word.fits
