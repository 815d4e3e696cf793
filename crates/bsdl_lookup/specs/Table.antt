-- Cells by their numbers.
use Rattle.std.specs.Prelude.{ℕ, ◌==◌, Bool, true, false, not, List, [], ◌∷◌, filter, Option, Some, None}
use Rattle.bsdl_values.specs.CellRows.{CellRow}

-- a row more: no number has two
abbrev pub with_row : Option Bool → Bool → Option Bool
with_row None fits = Some fits
with_row (Some b) fits = Some false

-- a cell below the length has one row, which fits; from the length on it has none
abbrev pub is_fit : Bool → Option Bool → Bool
is_fit below None = not below
is_fit below (Some fits) = both below fits
  where
    both : Bool → Bool → Bool
    both true fits = fits
    both false fits = false

-- one row, which fits
abbrev pub alone : (CellRow → Bool) → List CellRow → Option Bool
alone fits [] = None
alone fits (r ∷ []) = Some (fits r)
alone fits (r ∷ s ∷ rows) = Some false

-- of the rows of a number
abbrev pub only_row_fits : (CellRow → Bool) → List CellRow → ℕ → Option Bool
only_row_fits fits rows n = alone fits (filter (λ r. r.number == n) rows)
