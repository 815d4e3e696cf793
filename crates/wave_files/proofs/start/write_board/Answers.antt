use Rattle.std.proofs.Common.{refl}
use Rattle.byte_streams.proofs.Fronts.{WritesAll-stopped, WritesAll-then}
use Rattle.wave_files.proofs.start.write_board.Goals as goal

pub returns-in_err-write_devices : goal.returns-in_err-write_devices
returns-in_err-write_devices g c =
    WritesAll-stopped _ c.in_err-write_devices.ensures refl c.from_residual.ensures.0

pub returns : goal.returns
returns g c =
    WritesAll-then c.in_ok-write_devices.ensures refl
    (c.write_nets.ensures)
