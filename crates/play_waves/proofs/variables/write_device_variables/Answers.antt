use Rattle.std.proofs.Common.{◌+◌, ◌*◌, refl, sym, arith}
use Rattle.board_chips.specs.WiredChips.{chip_state}
use Rattle.wave_files.specs.Heading.{device_variables}
use Rattle.wave_files.proofs.Numbers.{by_three, done, lost, written}
use Rattle.play_waves.proofs.variables.write_device_variables.Goals as goal

pub loop-i-preserved : goal.loop-i-preserved
loop-i-preserved g c =
    let i = c.loop-i.i in
    record {
      none_lost = c.in_ok-write_device_scope.ensures.ok.0 refl;
      sent = written device_variables 3 6 c.args.chain.now.chips i (6 + 3 * i) (chip_state c.chip.result.now)
          c.chip.ensures (sym (by_three 6 i)) _ _ _ c.loop-i.invariant.sent c.in_ok-write_device_scope.ensures.whole;
    }

pub returns-in_err-write_device_scope : goal.returns-in_err-write_device_scope
returns-in_err-write_device_scope g c =
    let i = c.loop-i.i in
    lost device_variables 3 6 c.args.chain.now.chips i (6 + 3 * i) (chip_state c.chip.result.now) c.chip.ensures (sym (by_three 6 i))
    c.loop-i.invariant.sent c.in_err-write_device_scope.ensures refl c.from_residual.ensures.0

pub returns : goal.returns
returns g c =
    done device_variables 3 tt 6 c.args.chain.now.chips c.loop-i.i (omega (arith, c.loop-i-test.false, c.devices-i-end.ensures))
    c.loop-i.invariant.none_lost c.loop-i.invariant.sent
