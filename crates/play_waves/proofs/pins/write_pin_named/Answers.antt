use Rattle.std.proofs.Common.{refl}
use Rattle.byte_streams.proofs.Fronts.{WritesAll-stopped, WritesAll-then}
use Rattle.play_waves.proofs.pins.write_pin_named.Goals as goal

pub returns-in_err-write_front : goal.returns-in_err-write_front
returns-in_err-write_front g c = WritesAll-stopped _ c.in_err-write_front.ensures refl c.from_residual.ensures.0

pub returns : goal.returns
returns g c = WritesAll-then c.in_ok-write_front.ensures refl c.write_port.ensures
