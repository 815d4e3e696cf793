use Rattle.std.proofs.Common.{refl}
use Rattle.byte_streams.proofs.Fronts.{WritesAll-stopped, WritesAll-then}
use Rattle.wave_files.proofs.extras.write_extra_values.Goals as goal

pub returns-in_err-write_values_of_devices : goal.returns-in_err-write_values_of_devices
returns-in_err-write_values_of_devices g c =
    WritesAll-stopped _ c.in_err-write_values_of_devices.ensures refl c.from_residual.ensures.0

pub returns : goal.returns
returns g c = WritesAll-then c.in_ok-write_values_of_devices.ensures refl c.write_drive_values.ensures
