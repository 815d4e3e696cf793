use Rattle.std.proofs.Common.{List, sym, subst}
use Rattle.board_model.specs.Cells.{Member}
use Rattle.fault_events.specs.Captures.{Fits}
use Rattle.fault_events.proofs.Resting.{begins, if_ok_then, rests_members}
use Rattle.fault_events.proofs.captures.Captures.next_block.Goals as goal

pub note_steps-requires-clause-rests : goal.note_steps-requires-clause-rests
note_steps-requires-clause-rests c = record { state = c.requires.way.state; is = c.requires.way.rests }

pub note_steps-requires-clause-fits : goal.note_steps-requires-clause-fits
note_steps-requires-clause-fits c =
    subst (λ (ms : List Member). Fits ms c.args.self.now.devices.now c.args.self.now.numbers)
    (sym (rests_members c.args.self.now.board c.requires.way.state c.requires.way.rests)) c.requires.way.fits

pub returns : goal.returns
returns c = λ cs pins are.
    if_ok_then c.note_steps.result _ _
    (λ block goes. begins cs pins c.args.self.now are c.note_steps.new.steps c.note_steps.new.board block.items goes)
    (c.note_steps.ensures are.way.state are.way.rests)
