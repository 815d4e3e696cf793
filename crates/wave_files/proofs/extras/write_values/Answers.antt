use Rattle.std.proofs.Common.{◌+◌, ◌*◌, refl, sym, arith}
use Rattle.board_chips.specs.WiredChips.{chip_state}
use Rattle.wave_files.specs.Extras.{extra_lines}
use Rattle.wave_files.proofs.Numbers.{by_two, done, lost, written}
use Rattle.wave_files.proofs.extras.write_values.Goals as goal

pub loop-i-preserved : goal.loop-i-preserved
loop-i-preserved g c =
    let i = c.loop-i.i in
    let n = c.args.first in
    record {
      none_lost = c.in_ok-write_device_values.ensures.ok.0 refl;
      sent = written (extra_lines c.args.extras) 2 n c.args.chain.now.chips i (n + 2 * i) (chip_state c.chip.result.now)
          c.chip.ensures (sym (by_two n i)) _ _ _ c.loop-i.invariant.sent c.in_ok-write_device_values.ensures.whole;
    }

pub returns-in_err-write_device_values : goal.returns-in_err-write_device_values
returns-in_err-write_device_values g c =
    let i = c.loop-i.i in
    let n = c.args.first in
    lost (extra_lines c.args.extras) 2 n c.args.chain.now.chips i (n + 2 * i) (chip_state c.chip.result.now) c.chip.ensures (sym (by_two n i))
    c.loop-i.invariant.sent c.in_err-write_device_values.ensures refl c.from_residual.ensures.0

pub returns : goal.returns
returns g c =
    done (extra_lines c.args.extras) 2 tt c.args.first c.args.chain.now.chips c.loop-i.i (omega (arith, c.loop-i-test.false, c.devices-i-end.ensures))
    c.loop-i.invariant.none_lost c.loop-i.invariant.sent
