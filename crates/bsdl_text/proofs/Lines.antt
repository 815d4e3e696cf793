-- Where a string ends, or its line, by a search.
use Rattle.std.proofs.Common.{◌≡◌, ℕ, Bool, true, false, List, length, Option, Some, None, unwrap_or, refl, sym, ap, not, ◌||◌, ◌==◌, ◌∙◌, arith}
use Rattle.std.specs.List.{prefix_len, slice_index}
use Rattle.std.proofs.lemmas.List.Sums.{prefix_len_is}
use Rattle.memchr.specs.Find.{IsFirstByte, is_byte3}
use Rattle.bsdl_text.specs.Bytes.{is_within}

not_true : (b : Bool) → (b ≡ true → ⊥) → b ≡ false
not_true true fails = absurd (fails refl)
not_true false fails = refl

or_three : (a b c : Bool) → ((a || b) || c) ≡ (a || (b || c))
or_three true b c = refl
or_three false b c = refl

stops : (c : ℕ) → is_byte3 34 10 13 c ≡ true → is_within c ≡ false
stops c h = ap not (sym (or_three (c == 34) (c == 10) (c == 13)) ∙ h)

goes_on : (c : ℕ) → (is_byte3 34 10 13 c ≡ true → ⊥) → is_within c ≡ true
goes_on c fails = ap not (sym (or_three (c == 34) (c == 10) (c == 13)) ∙ not_true _ fails)

pub within_len_is : (text : List ℕ) (found : Option ℕ) → IsFirstByte (is_byte3 34 10 13) text found → unwrap_or found (length text) ≡ prefix_len is_within text
within_len_is text None nowhere =
    sym (prefix_len_is is_within text (length text) 0 (omega arith) (λ k lt. goes_on (slice_index text k) (nowhere k (omega arith) lt)) (λ lt. absurd (omega arith)))
within_len_is text (Some n) here =
    sym (prefix_len_is is_within text n 0 (omega (arith, here.0.high)) (λ k lt. goes_on (slice_index text k) (here.0.before k (omega arith) lt)) (λ _. stops (slice_index text n) here.1))
