use Rattle.board_model.specs.Whole.{settle}
use Rattle.fault_events.proofs.PartsKept.{settle_keeps}
use Rattle.fault_events.proofs.Resting.{fits_next}
use Rattle.fault_events.proofs.captures.go.Goals as goal

pub arrive-requires-clause-fits : goal.arrive-requires-clause-fits
arrive-requires-clause-fits c =
    let m = c.requires.rests.state in
    let is = c.requires.rests.is in
    fits_next c.args.board.now c.settle.new.self m (settle m) is (c.settle.ensures m is) (settle_keeps m) c.args.at.devices.now c.args.at.numbers.now c.requires.fits
