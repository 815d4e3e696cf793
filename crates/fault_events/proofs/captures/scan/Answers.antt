use Rattle.std.proofs.Common.{◌∙◌}
use Rattle.scan_vectors.specs.Held.{bits}
use Rattle.scan_vectors.specs.Vector.{tdis}
use Rattle.board_model.specs.Whole.{capture, settle, shift}
use Rattle.play_model.specs.Meaning.{scan_end}
use Rattle.fault_events.specs.Events.{events_capturing, events_ending}
use Rattle.fault_events.proofs.PartsKept.{scanned_keeps, settle_keeps}
use Rattle.fault_events.proofs.Resting.{fits_next, goes_both, on_ok_then}
use Rattle.fault_events.proofs.captures.scan.Goals as goal

pub capture_scan-requires-clause-rests : goal.capture_scan-requires-clause-rests
capture_scan-requires-clause-rests c =
    let m = c.requires.rests.state in
    record { state = settle m; is = c.settle.ensures m c.requires.rests.is }

pub capture_scan-requires-clause-fits : goal.capture_scan-requires-clause-fits
capture_scan-requires-clause-fits c =
    let m = c.requires.rests.state in
    let is = c.requires.rests.is in
    fits_next c.args.board.now c.settle.new.self m (settle m) is (c.settle.ensures m is) (settle_keeps m) c.args.at.devices.now c.args.at.numbers.now c.requires.fits

pub end-requires-clause-rests : goal.end-requires-clause-rests
end-requires-clause-rests c =
    let m = c.requires.rests.state in
    let s = settle m in
    record {
      state = shift c.args.column (tdis (bits c.args.vector.now)) (capture c.args.column s);
      is = (c.in_ok-capture_scan.ensures s (c.settle.ensures m c.requires.rests.is)).rests;
    }

pub end-requires-clause-fits : goal.end-requires-clause-fits
end-requires-clause-fits c =
    let m = c.requires.rests.state in
    let is = c.requires.rests.is in
    let s = settle m in
    let column = c.args.column in
    let t = tdis (bits c.args.vector.now) in
    fits_next c.args.board.now c.capture_scan.new.board m (shift column t (capture column s)) is (c.in_ok-capture_scan.ensures s (c.settle.ensures m is)).rests
    (scanned_keeps column t s ∙ settle_keeps m) c.args.at.devices.now c.args.at.numbers.now c.requires.fits

pub returns : goal.returns
returns c = λ m is.
    let s = settle m in
    let column = c.args.column in
    let v = bits c.args.vector.now in
    let n = shift column (tdis v) (capture column s) in
    let one = c.in_ok-capture_scan.ensures s (c.settle.ensures m is) in
    on_ok_then c.end.result _ _
    (λ more. goes_both c.args.at.numbers.now.pins.items (events_capturing c.args.at.command column v s) (events_ending c.args.at.command column c.args.state n)
    n (scan_end column c.args.state n) c.capture_scan.new.board c.end.new.board
    c.args.list.now.items c.capture_scan.new.list.items c.end.new.list.items one more)
    (c.end.ensures n one.rests)
