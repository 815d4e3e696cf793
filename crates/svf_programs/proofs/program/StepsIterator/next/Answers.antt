use Rattle.svf_programs.proofs.KeptSteps.{left_some}
use Rattle.svf_programs.specs.Seen.{numbered}
use Rattle.svf_programs.proofs.program.StepsIterator.next.Goals as goal

pub returns-clause-steps : goal.returns-clause-steps
returns-clause-steps c = left_some c.args.self.now.program.now.steps c.args.self.now.at (numbered c.step-step.result) c.step-step.ensures
