use Rattle.std.proofs.Common.{refl}
use Rattle.byte_streams.proofs.Fronts.{WritesAll-stopped, WritesAll-then}
use Rattle.play_drawing.proofs.drawing.resting.write_ticks.Goals as goal

pub returns-in_err-write_tick : goal.returns-in_err-write_tick
returns-in_err-write_tick g c = WritesAll-stopped _ c.in_err-write_tick.ensures refl c.from_residual.ensures.0

pub returns : goal.returns
returns g c = WritesAll-then c.in_ok-write_tick.ensures refl c.write_tick-2.ensures
