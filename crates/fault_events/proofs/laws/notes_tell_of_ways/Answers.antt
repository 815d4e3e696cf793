use Rattle.fault_events.proofs.Telling.{notes_tell}
use Rattle.fault_events.proofs.laws.notes_tell_of_ways.Goals as goal

pub returns : goal.returns
returns c = notes_tell
