use Rattle.std.proofs.Common.{OnOk, sym, subst}
use Rattle.svf_programs.specs.Seen as kept
use Rattle.svf_programs.specs.declared.step.Action.{Action}
use Rattle.play_model.specs.Meaning.{after_step}
use Rattle.fault_events.specs.Captures.{Goes}
use Rattle.fault_events.specs.Events.{events_of_step}
use Rattle.fault_events.proofs.captures.note_step.Goals as goal

pub returns-in-Scan : goal.returns-in-Scan
returns-in-Scan c = λ m is.
    subst (λ (a : Action). OnOk c.scan.result (Goes c.args.numbers.now.pins.items (events_of_step c.args.step.now.number (kept.step a) m) (after_step (kept.step a) m)
    c.scan.new.board c.args.list.now.items c.scan.new.list.items)) (sym c.in-Scan.is) (c.scan.ensures m is)
