-- The bytes of SVF text, by what they begin.
use Rattle.std.specs.Prelude.{ℕ, Bool, ◌&&◌, ◌||◌, ◌==◌, List, slice_index}
use Rattle.std.specs.Char.{is_ascii_alphanumeric}

-- a byte of a run: a letter, a digit, `.`, `+`, `-` or `_`
abbrev pub is_run : ℕ → Bool
is_run c = is_ascii_alphanumeric c || (c == 46 || (c == 43 || (c == 45 || c == 95)))

-- `(`, `)` and `;`
abbrev pub is_mark : ℕ → Bool
is_mark c = c == 40 || (c == 41 || c == 59)

-- `!`, or `/` before another `/`
abbrev pub begins_comment : ℕ → List ℕ → Bool
begins_comment c rest = c == 33 || (c == 47 && slice_index rest 0 == 47)
