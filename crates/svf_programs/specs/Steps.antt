-- The steps of a program (Serial Vector Format, revision E).
use Rattle.std.specs.Prelude.{Bool, true, false, ℕ, List}
use Rattle.jt_tap.specs.declared.Column.{Column}
use Rattle.jt_tap.specs.declared.State.{State}
use Rattle.jt_tap.specs.declared.State.TheVariants.{Reset}
use Rattle.svf_parse.specs.TrstWord.{TrstWord}
use Rattle.svf_parse.specs.TrstWord.TheVariants as word
pub use Rattle.jt_tap.specs.Paths.{last_of}
use Rattle.scan_vectors.specs.Vector.{VectorBit}

pub data Step : Type 0 where
  Scan : Column → (vector : List VectorBit) → (end : State) → Step
  Go : State → Step
  Path : List State → Step
  Run : (run : State) → (cycles : ℕ) → (end : State) → Step
  Trst : TrstWord → Step

-- a step, by the number of its statement
pub record Numbered : Type 0 where
  pub number : ℕ
  pub what : Step

pub record Program : Type 0 where
  pub statements : ℕ
  pub steps : List Numbered

-- where a step rests
abbrev pub place_after : State → Step → State
place_after place (Scan column v end) = end
place_after place (Go s) = s
place_after place (Path path) = last_of place path
place_after place (Run run n end) = end
place_after place (Trst word.On) = Reset
place_after place (Trst w) = place

-- the level of the TRST line after a step
abbrev pub line_after : Bool → Step → Bool
line_after trst (Trst word.On) = true
line_after trst (Trst word.Absent) = trst
line_after trst (Trst w) = false
line_after trst step = trst
