-- What faults are judged with, and what is told of a way with which a program passes.
use Rattle.std.specs.Prelude.{◌≡◌, map}
use Rattle.board_plan.specs.Planned.{Wiring}
use Rattle.board_plan.specs.View.{member as planned_member}
use Rattle.play_model.specs.declared.ending.Ending.TheVariants.{Pass}
use Rattle.board_faults.specs.declared.judging.Verdict.{Verdict}
use Rattle.board_faults.specs.declared.judging.Verdict.TheVariants.{Invisible, Played}
use Rattle.board_faults.specs.declared.kinds.Way.{Way}
use Rattle.board_faults.specs.Sight.{IsInvisible}
use Rattle.board_faults.specs.Sights.{AreSights}
use Rattle.play_coverage.specs.declared.judging.Bench.{Bench}

-- the board's devices, and what is seen of it
pub record IsBench (w : Wiring) (b : Bench) : Type 0 where
  pub board : map planned_member b.board.devices.items ≡ w.members
  pub sights : AreSights w.members w.nets b.sights

-- that no program could catch it, or that it passes
abbrev pub JudgesPassed : Wiring → Way → Verdict → Type 0
JudgesPassed w way Invisible = IsInvisible w way
JudgesPassed w way (Played ending) = (IsInvisible w way → ⊥) × (ending ≡ Pass)
