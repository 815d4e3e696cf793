use Rattle.std.proofs.Common.{◌+◌, ◌*◌, refl, sym, arith}
use Rattle.board_chips.specs.WiredChips.{chip_state}
use Rattle.wave_files.specs.Heading.{extra_variables}
use Rattle.wave_files.proofs.Numbers.{by_two, done, lost, written}
use Rattle.play_waves.proofs.scopes.write_scopes.Goals as goal

pub loop-i-preserved : goal.loop-i-preserved
loop-i-preserved g c =
    let i = c.loop-i.i in
    let n = c.args.first in
    record {
      none_lost = c.in_ok-write_extra_scope.ensures.ok.0 refl;
      sent = written (extra_variables c.args.extras) 2 n c.args.chain.now.chips i (n + 2 * i) (chip_state c.chip.result.now)
          c.chip.ensures (sym (by_two n i)) _ _ _ c.loop-i.invariant.sent c.in_ok-write_extra_scope.ensures.whole;
    }

pub returns-in_err-write_extra_scope : goal.returns-in_err-write_extra_scope
returns-in_err-write_extra_scope g c =
    let i = c.loop-i.i in
    let n = c.args.first in
    lost (extra_variables c.args.extras) 2 n c.args.chain.now.chips i (n + 2 * i) (chip_state c.chip.result.now) c.chip.ensures (sym (by_two n i))
    c.loop-i.invariant.sent c.in_err-write_extra_scope.ensures refl c.from_residual.ensures.0

pub returns : goal.returns
returns g c =
    done (extra_variables c.args.extras) 2 tt c.args.first c.args.chain.now.chips c.loop-i.i (omega (arith, c.loop-i-test.false, c.devices-i-end.ensures))
    c.loop-i.invariant.none_lost c.loop-i.invariant.sent
