use Rattle.fault_events.proofs.Sources.{captures_take}
use Rattle.fault_events.proofs.laws.captures_take_from_sources.Goals as goal

pub returns : goal.returns
returns c = captures_take
