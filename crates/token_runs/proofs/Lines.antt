-- Where a line ends, by a search.
use Rattle.std.proofs.Common.{◌≡◌, ℕ, Bool, true, false, List, length, Option, Some, None, unwrap_or, refl, sym, arith}
use Rattle.std.specs.List.{position_or_len}
use Rattle.std.proofs.lemmas.List.Sums.{position_or_len_is}
use Rattle.memchr.specs.Find.{IsFirstByte, is_byte2}
use Rattle.token_runs.specs.Bytes.{is_line_end}

not_true : (b : Bool) → (b ≡ true → ⊥) → b ≡ false
not_true true fails = absurd (fails refl)
not_true false fails = refl

pub line_len_is : (text : List ℕ) (found : Option ℕ) → IsFirstByte (is_byte2 10 13) text found → unwrap_or found (length text) ≡ position_or_len is_line_end text
line_len_is text None nowhere =
    sym (position_or_len_is is_line_end text (length text) 0 (omega arith) (λ k lt. not_true _ (nowhere k (omega arith) lt)) (λ lt. absurd (omega arith)))
line_len_is text (Some n) here =
    sym (position_or_len_is is_line_end text n 0 (omega (arith, here.0.high)) (λ k lt. not_true _ (here.0.before k (omega arith) lt)) (λ _. here.1))
