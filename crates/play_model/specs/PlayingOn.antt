-- A player that plays its program to the end, whatever fails, and the list of all that failed.
use Rattle.std.specs.Prelude.{Bool, ℕ, List, [], ◌∷◌, ◌++◌, map, length, drop, None}
use Rattle.bitbang.specs.Steps.{Step, Scan, Numbered}
use Rattle.play_model.specs.Meaning.{after_step}
use Rattle.scan_vectors.specs.Vector.{VectorBit, tdis}
use Rattle.board_model.specs.Whole.{AtRest, capture, out, settle}
pub use Rattle.scan_vectors.specs.Failures.{differing}
pub use Rattle.scan_vectors.specs.declared.failures.Mismatch.{Mismatch}
use Rattle.play_model.specs.declared.ending.Ending.{Ending}
use Rattle.play_model.specs.declared.ending.Ending.TheVariants.{Pass, Fail}
use Rattle.play_model.specs.declared.kind.Kind.{Kind}
use Rattle.play_model.specs.declared.kind.Kind.TheVariants.{Stops, PlaysOn}
use Rattle.play_model.specs.Play.{Turn, turns}

-- A bit that is asked for, whatever it is.
abbrev pub any_value : VectorBit → VectorBit
any_value v = record v { wanted = None }

-- The turn asks for the same bits, and no value fails it.
abbrev pub unjudged : Turn → Turn
unjudged t = record t { wants = map any_value t.wants }

-- A player that plays on sends what one sends whose every answer is welcome.
abbrev pub turns_for : Kind → List Numbered → List Turn
turns_for Stops steps = turns steps
turns_for PlaysOn steps = map unjudged (turns steps)

-- Of all answers, those that differ, by command and then by place in the whole vector.
abbrev pub failures : List Turn → List Bool → List Mismatch
failures [] got = []
failures (t ∷ ts) got = differing t.command t.wants got ++ failures ts (drop (length t.wants) got)

abbrev pub ending_of : List Mismatch → Ending
ending_of [] = Pass
ending_of (f ∷ fs) = Fail f.command f.part f.bit

-- Over whole registers: every step, and all that differs.
pub record OutcomeOfAll : Type 0 where
  pub failures : List Mismatch
  pub after : AtRest

abbrev pub step_failures : Numbered → AtRest → List Mismatch
step_failures s m = of s.what
  where
    of : Step → List Mismatch
    of (Scan column v end) = differing s.number v (out column (tdis v) (capture column (settle m)))
    of _ = []

abbrev pub outcome_of_all : List Numbered → AtRest → OutcomeOfAll
outcome_of_all [] m = record { failures = []; after = m }
outcome_of_all (s ∷ ss) m =
    let rest = outcome_of_all ss (after_step s.what m) in
    record { failures = step_failures s m ++ rest.failures; after = rest.after }
