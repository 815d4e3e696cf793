use Rattle.fault_events.proofs.Events.{faults_are_told}
use Rattle.fault_events.proofs.laws.events_tell_of_faults.Goals as goal

pub returns : goal.returns
returns c = faults_are_told
