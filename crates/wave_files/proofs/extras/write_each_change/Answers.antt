use Rattle.std.proofs.Common.{◌+◌, ◌*◌, refl, sym, arith, zip}
use Rattle.board_chips.specs.WiredChips.{chip_state}
use Rattle.wave_files.specs.Extras.{extra_change}
use Rattle.wave_files.proofs.Instructions.{keeps_at}
use Rattle.wave_files.proofs.Numbers.{both_long, both_there, by_two, done, lost, written}
use Rattle.wave_files.proofs.extras.write_each_change.Goals as goal

pub write_extra_change-requires-clause-quiet : goal.write_extra_change-requires-clause-quiet
write_extra_change-requires-clause-quiet g c = λ quiet.
    keeps_at c.args.behind.now.chips c.args.ahead.now.chips c.loop-i.i (chip_state c.chip.result.now) (chip_state c.chip-in-loop-i.result.now)
    c.chip.ensures c.chip-in-loop-i.ensures (c.requires.quiet quiet)

pub loop-i-preserved : goal.loop-i-preserved
loop-i-preserved g c =
    let cs = c.args.behind.now.chips in
    let ds = c.args.ahead.now.chips in
    let i = c.loop-i.i in
    let n = c.args.first in
    record {
      none_lost = c.in_ok-write_extra_change.ensures.ok.0 refl;
      sent = written (extra_change c.args.extras) 2 n (zip cs ds) i (n + 2 * i) (chip_state c.chip.result.now, chip_state c.chip-in-loop-i.result.now)
          (both_there cs ds i _ _ c.chip.ensures c.chip-in-loop-i.ensures) (sym (by_two n i)) _ _ _
          c.loop-i.invariant.sent c.in_ok-write_extra_change.ensures.whole;
    }

pub returns-in_err-write_extra_change : goal.returns-in_err-write_extra_change
returns-in_err-write_extra_change g c =
    let cs = c.args.behind.now.chips in
    let ds = c.args.ahead.now.chips in
    let i = c.loop-i.i in
    let n = c.args.first in
    lost (extra_change c.args.extras) 2 n (zip cs ds) i (n + 2 * i) (chip_state c.chip.result.now, chip_state c.chip-in-loop-i.result.now)
    (both_there cs ds i _ _ c.chip.ensures c.chip-in-loop-i.ensures) (sym (by_two n i))
    c.loop-i.invariant.sent c.in_err-write_extra_change.ensures refl c.from_residual.ensures.0

pub returns : goal.returns
returns g c =
    let cs = c.args.behind.now.chips in
    let ds = c.args.ahead.now.chips in
    done (extra_change c.args.extras) 2 tt c.args.first (zip cs ds) c.loop-i.i
    (omega (arith, both_long cs ds c.requires.alike, c.loop-i-test.false, c.devices-i-end.ensures))
    c.loop-i.invariant.none_lost c.loop-i.invariant.sent
