use Rattle.play_model.specs.Meaning.{move_unless_there}
use Rattle.fault_events.specs.Events.{events_moving}
use Rattle.fault_events.proofs.PartsKept.{move_keeps}
use Rattle.fault_events.proofs.Resting.{fits_next, goes_both, on_ok_then}
use Rattle.fault_events.proofs.captures.run.Goals as goal

pub go_unless_there-requires-2-clause-rests : goal.go_unless_there-requires-2-clause-rests
go_unless_there-requires-2-clause-rests c =
    let m = c.requires.rests.state in
    record { state = move_unless_there c.args.first m; is = (c.in_ok-go_unless_there.ensures m c.requires.rests.is).rests }

pub go_unless_there-requires-2-clause-fits : goal.go_unless_there-requires-2-clause-fits
go_unless_there-requires-2-clause-fits c =
    let m = c.requires.rests.state in
    let is = c.requires.rests.is in
    fits_next c.args.board.now c.go_unless_there.new.board m (move_unless_there c.args.first m) is (c.in_ok-go_unless_there.ensures m is).rests
    (move_keeps c.args.first m) c.args.at.devices.now c.args.at.numbers.now c.requires.fits

pub returns : goal.returns
returns c = λ m is.
    let one = c.in_ok-go_unless_there.ensures m is in
    let n = move_unless_there c.args.first m in
    on_ok_then c.go_unless_there-2.result _ _
    (λ more. goes_both c.args.at.numbers.now.pins.items (events_moving c.args.at.command c.args.first m) (events_moving c.args.at.command c.args.last n)
    n (move_unless_there c.args.last n) c.go_unless_there.new.board c.go_unless_there-2.new.board
    c.args.list.now.items c.go_unless_there.new.list.items c.go_unless_there-2.new.list.items one more)
    (c.go_unless_there-2.ensures n one.rests)
