use Rattle.std.proofs.Common.{refl}
use Rattle.byte_streams.proofs.Fronts.{WritesAll-stopped, WritesAll-then}
use Rattle.wave_files.proofs.extras.write_extra_change.Goals as goal

pub returns-in_err-write_name_change : goal.returns-in_err-write_name_change
returns-in_err-write_name_change g c =
    WritesAll-stopped _ c.in_err-write_name_change.ensures refl c.from_residual.ensures.0

pub returns : goal.returns
returns g c =
    WritesAll-then c.in_ok-write_name_change.ensures refl
    (c.write_tdo_change.ensures)
