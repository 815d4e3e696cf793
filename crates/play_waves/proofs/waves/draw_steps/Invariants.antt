use Rattle.std.proofs.Common.{◌≡◌, ◌++◌, Bool, true, ℕ, List}
use Rattle.std.specs.Io.KnownBytes.{Appends}
use Rattle.jt_tap.specs.Controller.{is_stable}
use Rattle.jt_tap.specs.declared.State.TheVariants.{Reset}
use Rattle.svf_programs.specs.Legal.{AllLegalFrom}
use Rattle.svf_programs.specs.Sound.{AllWithin}
use Rattle.svf_programs.specs.Left.{left}
use Rattle.svf_programs.specs.Periods.{period_in}
use Rattle.play_model.specs.Play.{step_turns}
use Rattle.play_drawing.specs.Waves.{wave}
use Rattle.play_waves.proofs.waves.draw_steps.Given as goal

-- what was written, and behind it the wave of the steps that are left, is that of the program
abbrev pub invariant-loop-step : goal.invariant-loop-step
invariant-loop-step g l = record {
  trst : Bool;
  stable : is_stable l.place ≡ true;
  legal : AllLegalFrom l.place trst (left l.step-iterator);
  within : AllWithin (left l.step-iterator);
  same : l.periods ≡ l.program.periods;
  none_lost : l.out.failures ≡ 0;
  sent : List ℕ;
  writes : Appends (g.W.Write.contents l.fn.out.inner) (g.W.Write.contents l.out.inner) sent;
  split : wave l.noted (period_in l.program.periods) l.failed (step_turns Reset l.program.steps) l.fn.drawing
      ≡ sent ++ wave l.noted (period_in l.program.periods) l.failed (step_turns l.place (left l.step-iterator)) l.drawing;
}
