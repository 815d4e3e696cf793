-- What each wave file begins with: it is told from other files by that.
use Rattle.std.specs.Prelude.{ℕ, ◌≤◌, Bool, List, ◌++◌, take, codes}
use Rattle.std.specs.Io.{StartsWith}
use Rattle.svf_programs.specs.Steps.{Program}
use Rattle.board_model.specs.Chain.{BoardState}
use Rattle.play_model.specs.declared.kind.Kind.{Kind}
use Rattle.wave_files.specs.declared.extras.Extras.{Extras}
use Rattle.wave_files.specs.Heading.{line_variables}
use Rattle.play_drawing.specs.Waves.{wave_file}

-- the unit of time, and the variables that stand in each file
abbrev pub front : List ℕ
front = codes "$timescale 1 ps $end\n$scope module board $end\n" ++ line_variables

-- The first bytes of each wave file begin so, where they are 256 or more.
abbrev pub EachBeginsSo : Type 0
EachBeginsSo =
    (noted : Bool) → (x : Extras) → (period_of : ℕ → ℕ) → (kind : Kind) → (program : Program) → (b : BoardState)
    → (n : ℕ) → 256 ≤ n → StartsWith (take n (wave_file noted x period_of kind program b)) front
