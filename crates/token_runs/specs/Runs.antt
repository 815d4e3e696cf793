-- Runs of bytes: as far as a test passes, or a line goes.
use Rattle.std.specs.Prelude.{◌≡◌, ℕ, Bool, true, false, ⊤, List, [], ◌∷◌}
use Rattle.std.specs.List.{AllByRecursion}
use Rattle.token_runs.specs.Bytes.{is_line_end}

-- these bytes do not go on with one that passes the test: they are none, or begin with one that does not
abbrev pub Ends : (ℕ → Bool) → List ℕ → Type 0
Ends test [] = ⊤
Ends test (c ∷ rest) = test c ≡ false

-- each byte passes the test
abbrev pub AllPass : (ℕ → Bool) → List ℕ → Type 0
AllPass test bytes = AllByRecursion (λ c. test c ≡ true) bytes

-- before these bytes a line ends: they are none, or begin with a line feed or a carriage return
abbrev pub EndsLine : List ℕ → Type 0
EndsLine [] = ⊤
EndsLine (c ∷ rest) = is_line_end c ≡ true

abbrev pub IsInLine : ℕ → Type 0
IsInLine c = is_line_end c ≡ false
