use Rattle.fault_events.proofs.Events.{runs_are_told}
use Rattle.fault_events.proofs.laws.events_tell_of_runs.Goals as goal

pub returns : goal.returns
returns c = runs_are_told
