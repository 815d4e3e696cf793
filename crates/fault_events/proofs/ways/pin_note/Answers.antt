use Rattle.std.proofs.Common.{take, ap, ◌∙◌}
use Rattle.fault_events.specs.Endings.{all_of}
use Rattle.fault_events.proofs.ways.pin_note.Goals as goal

pub returns : goal.returns
returns c = c.all_of.ensures ∙ ap all_of (c.front.ensures ∙ ap (take 1) c.behind.ensures)
