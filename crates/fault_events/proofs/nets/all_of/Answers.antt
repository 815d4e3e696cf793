use Rattle.std.proofs.Common.{◌∙◌}
use Rattle.fault_events.proofs.OnePlay.{with_nothing}
use Rattle.fault_events.proofs.nets.all_of.Goals as goal

pub returns : goal.returns
returns c = c.all_with.ensures ∙ with_nothing c.args.notes.now
