use Rattle.fault_events.proofs.Cuts.{captures_may_be_cut}
use Rattle.fault_events.proofs.laws.captures_may_be_cut.Goals as goal

pub returns : goal.returns
returns c = captures_may_be_cut
