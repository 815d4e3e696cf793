use Rattle.play_waves.proofs.DrawnLaws.{each_step, time_goes_on}
use Rattle.play_waves.proofs.laws.each_step_takes_its_cycles.Goals as goal

pub returns-clause-messages : goal.returns-clause-messages
returns-clause-messages c = time_goes_on

pub returns-clause-steps : goal.returns-clause-steps
returns-clause-steps c = each_step
