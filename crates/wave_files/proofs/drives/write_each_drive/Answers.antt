use Rattle.std.proofs.Common.{◌+◌, List, ℕ, refl, sym, subst, arith}
use Rattle.std.specs.Io.KnownBytes.{Appends}
use Rattle.byte_streams.proofs.Fronts.{WritesAll-is}
use Rattle.board_plan.specs.Planned.{all_pins}
use Rattle.wave_files.specs.Drives.{drive_change, driving}
use Rattle.wave_files.proofs.Numbers.{by_one, done, lost, written}
use Rattle.wave_files.proofs.Pins.{change_said}
use Rattle.wave_files.proofs.drives.write_each_drive.Goals as goal

pub loop-pin-preserved : goal.loop-pin-preserved
loop-pin-preserved g c =
    let nets = c.args.behind.now.nets in
    let cs = c.args.behind.now.chips in
    let ds = c.args.ahead.now.chips in
    let n = c.args.first in
    let k = c.loop-pin.pin in
    let it = change_said nets c.args.ahead.now.nets cs ds k (n + k) c.drive.result c.drive-in-loop-pin.result c.drive_byte-before.result c.drive_byte-after.result c.requires.alike c.drive.ensures c.drive-in-loop-pin.ensures c.drive_byte-before.ensures c.drive_byte-after.ensures in
    record {
      none_lost = c.in_ok-write_byte_change.ensures.ok.0 refl;
      sent = written (drive_change (driving nets cs) (driving nets ds)) 1 n (all_pins nets) k (n + k) it.pin it.is (sym (by_one n k)) _ _ _ c.loop-pin.invariant.sent
          (subst (λ (l : List ℕ). Appends (g.W.Write.contents c.loop-pin.out.inner) (g.W.Write.contents c.write_byte_change.new.out.inner) l) it.text
          c.in_ok-write_byte_change.ensures.whole);
    }

pub returns-in_err-write_byte_change : goal.returns-in_err-write_byte_change
returns-in_err-write_byte_change g c =
    let nets = c.args.behind.now.nets in
    let cs = c.args.behind.now.chips in
    let ds = c.args.ahead.now.chips in
    let n = c.args.first in
    let k = c.loop-pin.pin in
    let it = change_said nets c.args.ahead.now.nets cs ds k (n + k) c.drive.result c.drive-in-loop-pin.result c.drive_byte-before.result c.drive_byte-after.result c.requires.alike c.drive.ensures c.drive-in-loop-pin.ensures c.drive_byte-before.ensures c.drive_byte-after.ensures in
    lost (drive_change (driving nets cs) (driving nets ds)) 1 n (all_pins nets) k (n + k) it.pin it.is (sym (by_one n k)) c.loop-pin.invariant.sent
    (WritesAll-is it.text c.in_err-write_byte_change.ensures) refl c.from_residual.ensures.0

pub returns : goal.returns
returns g c =
    let nets = c.args.behind.now.nets in
    done (drive_change (driving nets c.args.behind.now.chips) (driving nets c.args.ahead.now.chips)) 1 tt c.args.first (all_pins nets) c.loop-pin.pin
    (omega (arith, c.loop-pin-test.false, c.pin_count-pin-end.ensures.count)) c.loop-pin.invariant.none_lost c.loop-pin.invariant.sent
