-- Bytes of a text of which it is plain, without a cut, that they belong to tokens and gaps.
use Rattle.std.specs.Prelude.{◌≡◌, ℕ, ◌+◌, Bool, not, ◌&&◌, ◌||◌, ◌==◌, if◌then◌else◌, List, [], ◌∷◌, drop}
use Rattle.std.specs.Char.{is_ascii_alphanumeric}
use Rattle.token_runs.specs.Bytes.{is_white}
use Rattle.bsdl_text.specs.Bytes.{is_word, is_mark}
use Rattle.bsdl_text.specs.Cutting.{cut, bad_place}

-- each of these stands in a token or a gap wherever it stands, but that `-` may begin a comment outside quotes
abbrev pub is_plain : ℕ → Bool
is_plain c = is_white c || (is_ascii_alphanumeric c || is_mark c)

-- and so does a `_` directly behind a byte of a word or a number; none is the byte that ends the look
abbrev pub is_plain_behind : (ending before : ℕ) → ℕ → Bool
is_plain_behind ending before c = not (c == ending) && (is_plain c || (c == 95 && is_word before))

-- how many bytes at the front are so, each behind the one before it
abbrev pub plain_len : (ending before : ℕ) → List ℕ → ℕ
plain_len ending before [] = 0
plain_len ending before (c ∷ cs) = if is_plain_behind ending before c then 1 + plain_len ending c cs else 0

-- no byte is bad among the first n of a text, which is cut on from there as if it began there
abbrev pub HasNoBad : (quoted : Bool) → List ℕ → (n : ℕ) → Type 0
HasNoBad quoted text n = (at : ℕ) → bad_place (cut quoted 0 at text) ≡ bad_place (cut quoted 0 (at + n) (drop n text))
