use Rattle.std.proofs.Common.{◌++◌, Option, None, ℕ, false, ap}
use Rattle.play_model.specs.Play.{turns}
use Rattle.play_drawing.specs.Pens.{begun}
use Rattle.play_drawing.specs.Waves.{failed_in, heading, wave}
use Rattle.play_waves.proofs.laws.a_pass_is_drawn_to_its_end.Goals as goal

pub returns : goal.returns
returns c = λ x period_of program b passes.
    ap (λ (failed : Option ℕ). heading false (begun x b) ++ wave None period_of failed (turns program.steps) (begun x b)) (ap failed_in passes)
