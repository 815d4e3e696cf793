use Rattle.fault_events.proofs.NotedEndings.{noted_faults}
use Rattle.fault_events.proofs.laws.notes_tell_of_faults.Goals as goal

pub returns : goal.returns
returns c = noted_faults
