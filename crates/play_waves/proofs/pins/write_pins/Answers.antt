use Rattle.std.proofs.Common.{◌+◌, take, drop, refl, sym, arith}
use Rattle.board_plan.specs.Planned.{all_pins}
use Rattle.wave_files.specs.Heading.{drive_variable}
use Rattle.wave_files.proofs.Numbers.{by_one, done, lost, written}
use Rattle.play_waves.proofs.PinLaws.{part_ends, part_there}
use Rattle.play_waves.proofs.pins.write_pins.Goals as goal

pub loop-i-preserved : goal.loop-i-preserved
loop-i-preserved g c =
    let all = all_pins c.args.chain.now.nets in
    let pins = take c.args.count (drop c.args.pin all) in
    let n = c.args.first + c.args.pin in
    let i = c.loop-i.i in
    record {
      none_lost = c.in_ok-write_drive_variable.ensures.ok.0 refl;
      sent = written (drive_variable c.args.chain.now.chips c.args.net.now) 1 n pins i (n + i) c.pin.result
          (part_there all c.args.pin c.args.count i c.pin.result (omega (arith, c.loop-i-test.true)) c.pin.ensures) (sym (by_one n i)) _ _ _
          c.loop-i.invariant.sent c.in_ok-write_drive_variable.ensures.whole;
    }

pub returns-in_err-write_drive_variable : goal.returns-in_err-write_drive_variable
returns-in_err-write_drive_variable g c =
    let all = all_pins c.args.chain.now.nets in
    let pins = take c.args.count (drop c.args.pin all) in
    let n = c.args.first + c.args.pin in
    let i = c.loop-i.i in
    lost (drive_variable c.args.chain.now.chips c.args.net.now) 1 n pins i (n + i) c.pin.result
    (part_there all c.args.pin c.args.count i c.pin.result (omega (arith, c.loop-i-test.true)) c.pin.ensures) (sym (by_one n i))
    c.loop-i.invariant.sent c.in_err-write_drive_variable.ensures refl c.from_residual.ensures.0

pub returns : goal.returns
returns g c =
    let all = all_pins c.args.chain.now.nets in
    done (drive_variable c.args.chain.now.chips c.args.net.now) 1 tt (c.args.first + c.args.pin) (take c.args.count (drop c.args.pin all)) c.loop-i.i
    (part_ends all c.args.pin c.args.count c.loop-i.i (omega (arith, c.loop-i-test.false))) c.loop-i.invariant.none_lost c.loop-i.invariant.sent
