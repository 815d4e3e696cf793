use Rattle.std.proofs.Common.{◌+◌, length, refl, arith}
use Rattle.std.specs.Prelude.{slice_get}
use Rattle.byte_streams.proofs.Fronts.{WritesAll-is, WritesAll-stopped, WritesAll-then}
use Rattle.pin_nets.specs.Wired.{Net}
use Rattle.wave_files.proofs.Numbers.{there_is}
use Rattle.play_waves.proofs.PinLaws.{pins_inside, scope_text}
use Rattle.play_waves.proofs.pins.write_net_scope.Goals as goal

pub write_pins-requires-clause-inside : goal.write_pins-requires-clause-inside
write_pins-requires-clause-inside g c =
    let nets = c.args.chain.now.nets in
    let it = there_is (λ (x : Net). length x.pins) (slice_get nets c.args.k) c.net_size-count.result c.net_size-count.ensures in
    omega (arith, pins_inside nets c.args.k it.thing it.is, it.says, c.requires.place)

pub returns-in_err-write_scope : goal.returns-in_err-write_scope
returns-in_err-write_scope g c = λ net at.
    WritesAll-is
    (scope_text c.args.chain.now.chips c.args.chain.now.nets c.args.k (c.args.first + c.args.pin) c.args.pin c.net_size-count.result c.net_name-net.result.now net at
    c.net_name-net.ensures c.net_size-count.ensures c.requires.place)
    (WritesAll-stopped _ c.in_err-write_scope.ensures refl c.from_residual.ensures.0)

pub returns-in_err-write_pins : goal.returns-in_err-write_pins
returns-in_err-write_pins g c = λ net at.
    WritesAll-is
    (scope_text c.args.chain.now.chips c.args.chain.now.nets c.args.k (c.args.first + c.args.pin) c.args.pin c.net_size-count.result c.net_name-net.result.now net at
    c.net_name-net.ensures c.net_size-count.ensures c.requires.place)
    (WritesAll-then c.in_ok-write_scope.ensures refl
    (WritesAll-stopped _ c.in_err-write_pins.ensures refl c.from_residual-in_err-write_pins.ensures.0))

pub returns : goal.returns
returns g c = λ net at.
    WritesAll-is
    (scope_text c.args.chain.now.chips c.args.chain.now.nets c.args.k (c.args.first + c.args.pin) c.args.pin c.net_size-count.result c.net_name-net.result.now net at
    c.net_name-net.ensures c.net_size-count.ensures c.requires.place)
    (WritesAll-then c.in_ok-write_scope.ensures refl
    (WritesAll-then c.in_ok-write_pins.ensures refl c.put_all.ensures.writes))
