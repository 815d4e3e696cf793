use Rattle.std.proofs.Common.{refl}
use Rattle.byte_streams.proofs.Fronts.{WritesAll-stopped, WritesAll-then}
use Rattle.play_drawing.proofs.drawing.write_closing.Goals as goal

pub returns-in_err-write_stamp : goal.returns-in_err-write_stamp
returns-in_err-write_stamp g c =
    WritesAll-stopped _ c.in_err-write_stamp.ensures refl c.from_residual.ensures.0

pub returns : goal.returns
returns g c =
    WritesAll-then c.in_ok-write_stamp.ensures refl
    (c.write_last_tck.ensures)
