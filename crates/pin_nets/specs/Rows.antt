-- The four numbers of a net's drivers as a row: to 0 and to 1, then weak ones to 0 and to 1.
use Rattle.std.specs.Prelude.{◌≡◌, true, false, ℕ, List, slice_index_or, Option, Some, None}
use Rattle.pin_nets.specs.declared.Counts.{Counts}
use Rattle.pin_nets.specs.declared.Drive.{Drive}
use Rattle.pin_nets.specs.declared.Drive.TheVariants.{Strong, Weak, Nothing}
use Rattle.pin_nets.specs.Levels.{Replaces, four}

-- the place of a driver's number in the row
abbrev pub place_of : Drive → Option ℕ
place_of (Strong false) = Some 0
place_of (Strong true) = Some 1
place_of (Weak false) = Some 2
place_of (Weak true) = Some 3
place_of Nothing = None

-- the numbers of a row by their names
abbrev pub numbers : List ℕ → Counts
numbers row = record {
  strong_zeros = slice_index_or row 0 0;
  strong_ones = slice_index_or row 1 0;
  weak_zeros = slice_index_or row 2 0;
  weak_ones = slice_index_or row 3 0;
}

-- four numbers
pub record IsRow (row : List ℕ) : Type 0 where
  pub four : row ≡ four (numbers row)

-- one driver in place of another
pub record RowReplaces (row after : List ℕ) (old new : Drive) : Type 0 where
  pub four : IsRow after
  pub moved : Replaces (numbers row) (numbers after) old new
