-- Words are ASCII.
use Rattle.std.specs.Prelude.{◌≡◌, ℕ, ◌<◌, List, slice_index}
use Rattle.bsdl_text.specs.declared.tokens.Kind.{Kind}
use Rattle.bsdl_text.specs.declared.tokens.Kind.TheVariants as kind

abbrev pub IsAscii : List ℕ → Type 0
IsAscii text = (k : ℕ) → slice_index text k < 128

-- of a word; another token may have any bytes
abbrev pub IsAsciiWord : Kind → List ℕ → Type 0
IsAsciiWord k text = k ≡ kind.Word → IsAscii text
