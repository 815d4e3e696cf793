use Rattle.std.proofs.Common.{◌+◌, ◌*◌, refl, sym, arith}
use Rattle.board_chips.specs.WiredChips.{chip_state}
use Rattle.wave_files.specs.Values.{device_lines}
use Rattle.wave_files.proofs.Numbers.{by_three, done, lost, written}
use Rattle.wave_files.proofs.start.write_devices.Goals as goal

pub loop-i-preserved : goal.loop-i-preserved
loop-i-preserved g c =
    let i = c.loop-i.i in
    record {
      none_lost = c.in_ok-write_device.ensures.ok.0 refl;
      sent = written device_lines 3 6 c.args.chain.now.chips i (6 + 3 * i) (chip_state c.chip.result.now)
          c.chip.ensures (sym (by_three 6 i)) _ _ _ c.loop-i.invariant.sent c.in_ok-write_device.ensures.whole;
    }

pub returns-in_err-write_device : goal.returns-in_err-write_device
returns-in_err-write_device g c =
    let i = c.loop-i.i in
    lost device_lines 3 6 c.args.chain.now.chips i (6 + 3 * i) (chip_state c.chip.result.now) c.chip.ensures (sym (by_three 6 i))
    c.loop-i.invariant.sent c.in_err-write_device.ensures refl c.from_residual.ensures.0

pub returns : goal.returns
returns g c =
    done device_lines 3 tt 6 c.args.chain.now.chips c.loop-i.i (omega (arith, c.loop-i-test.false, c.devices-i-end.ensures))
    c.loop-i.invariant.none_lost c.loop-i.invariant.sent
