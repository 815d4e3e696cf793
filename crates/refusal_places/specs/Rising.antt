-- Offsets of a text that rise.
use Rattle.std.specs.Prelude.{ℕ, ◌≤◌, Bool, List, [], ◌∷◌, length, ⊤}
use Rattle.std.specs.Coded.{×_prop, Unit-prop, le_prop}
use Rattle.svf_lex.specs.declared.Lexer.{Lexer}
use Rattle.svf_lex.specs.Left.{left}
use Rattle.refusal_places.specs.Starts.{starts}

-- the offsets rise from `low` on, and none lies beyond `len`
abbrev pub Rises : (len low : ℕ) → List ℕ → Type 0
Rises len low [] = ⊤
Rises len low (at ∷ more) = (low ≤ at) × ((at ≤ len) × Rises len at more)

pub Rises-prop : (len low : ℕ) (offsets : List ℕ) → IsProp (Rises len low offsets)
Rises-prop len low [] = Unit-prop
Rises-prop len low (at ∷ more) =
    ×_prop (le_prop {n = low} {m = at}) (×_prop (le_prop {n = at} {m = len}) (Rises-prop len at more))

-- the starts that are left at a lexer rise from an offset on
abbrev pub StartsRise : List ℕ → ℕ → Bool → Lexer → Type 0
StartsRise text at is_open l = Rises (length text) at (starts is_open (left l))

pub StartsRise-prop : (text : List ℕ) (at : ℕ) (is_open : Bool) (l : Lexer) → IsProp (StartsRise text at is_open l)
StartsRise-prop text at is_open l = Rises-prop (length text) at (starts is_open (left l))
