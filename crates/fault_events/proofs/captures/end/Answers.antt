use Rattle.board_model.specs.Whole.{update}
use Rattle.fault_events.proofs.PartsKept.{update_keeps}
use Rattle.fault_events.proofs.Resting.{fits_next}
use Rattle.fault_events.proofs.captures.end.Goals as goal

pub arrive-requires-clause-fits : goal.arrive-requires-clause-fits
arrive-requires-clause-fits c =
    let m = c.requires.rests.state in
    let is = c.requires.rests.is in
    fits_next c.args.board.now c.update.new.self m (update c.args.column m) is (c.update.ensures m is) (update_keeps c.args.column m) c.args.at.devices.now c.args.at.numbers.now c.requires.fits

pub arrive-requires-clause-rests : goal.arrive-requires-clause-rests
arrive-requires-clause-rests c =
    let m = c.requires.rests.state in
    record { state = update c.args.column m; is = c.update.ensures m c.requires.rests.is }
