-- What the steps of a program do to whole registers, and a program: a fold of its steps (Serial Vector Format, revision
-- E).
use Rattle.std.specs.Prelude.{false, List, [], ◌∷◌, Option, Some, None, ℕ, if◌then◌else◌}
use Rattle.jt_tap.specs.declared.Column.{Column}
use Rattle.jt_tap.specs.declared.State.{State}
use Rattle.jt_tap.specs.Controller.{pause, is_at}
use Rattle.svf_words.specs.declared.keywords.TrstWord.TheVariants.{On, Absent}
use Rattle.scan_vectors.specs.declared.part.Part.{Part}
use Rattle.scan_vectors.specs.Vector.{tdis, judge}
use Rattle.bitbang.specs.Steps.{Step, Scan, Go, Path, Run, Trst, Numbered}
use Rattle.board_model.specs.Whole.{AtRest, capture, out, shift, update, settle, arrive, along, trst_asserted}
use Rattle.play_model.specs.declared.ending.Ending.{Ending}
use Rattle.play_model.specs.declared.ending.Ending.TheVariants.{Pass, Fail}

-- A scan that ends in its own pause rests there with the update pending.
abbrev pub scan_end : Column → State → AtRest → AtRest
scan_end column end m =
    if is_at end (pause column) then record m { place = end } else arrive end (update column m)

abbrev pub move_to : State → AtRest → AtRest
move_to s m = arrive s (settle m)

abbrev pub move_unless_there : State → AtRest → AtRest
move_unless_there s m = if is_at m.place s then m else move_to s m

-- The state after a step.
abbrev pub after_step : Step → AtRest → AtRest
after_step (Scan column v end) m = scan_end column end (shift column (tdis v) (capture column (settle m)))
after_step (Go s) m = move_to s m
after_step (Path path) m = along path m
after_step (Run run n end) m = move_unless_there end (move_unless_there run m)
after_step (Trst On) m = trst_asserted m
after_step (Trst Absent) m = m
after_step (Trst _) m = record m { trst = false }

-- The first bit of the step that fails.
abbrev pub failure : Step → AtRest → Option (Part × ℕ)
failure (Scan column v end) m = judge v (out column (tdis v) (capture column (settle m)))
failure _ m = None

pub record Outcome : Type 0 where
  pub ending : Ending
  pub after : AtRest

-- The program: step by step, up to and with the first that fails.
abbrev pub outcome : List Numbered → AtRest → Outcome
outcome [] m = record { ending = Pass; after = m }
outcome (s ∷ ss) m =
    let rest = outcome ss (after_step s.what m) in
    elim (failure s.what m) [
      | None ↦ rest
      | Some f ↦ record { ending = Fail s.number f.0 f.1; after = after_step s.what m }
    ]
