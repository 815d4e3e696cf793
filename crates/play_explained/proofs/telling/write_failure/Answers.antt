use Rattle.std.proofs.Common.{refl}
use Rattle.byte_streams.proofs.Fronts.{WritesAll-stopped, WritesAll-then}
use Rattle.play_explained.proofs.telling.write_failure.Goals as goal

pub returns-in_err-write_mismatch : goal.returns-in_err-write_mismatch
returns-in_err-write_mismatch g c = WritesAll-stopped _ c.in_err-write_mismatch.ensures refl c.from_residual.ensures.0

pub returns-in_err-write_place : goal.returns-in_err-write_place
returns-in_err-write_place g c =
    WritesAll-then c.in_ok-write_mismatch.ensures refl
    (WritesAll-stopped _ c.in_err-write_place.ensures refl c.from_residual-in_err-write_place.ensures.0)

pub returns : goal.returns
returns g c = WritesAll-then c.in_ok-write_mismatch.ensures refl (WritesAll-then c.in_ok-write_place.ensures refl c.write_known.ensures)
