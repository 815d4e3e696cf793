use Rattle.std.proofs.Common.{refl}
use Rattle.byte_streams.proofs.Fronts.{WritesAll-stopped, WritesAll-then}
use Rattle.wave_files.proofs.extras.write_extra_changes.Goals as goal

pub write_changes_of_devices-requires-clause-quiet : goal.write_changes_of_devices-requires-clause-quiet
write_changes_of_devices-requires-clause-quiet g c = λ quiet. (c.requires.quiet quiet).no_instruction

pub write_drive_changes-requires-clause-quiet : goal.write_drive_changes-requires-clause-quiet
write_drive_changes-requires-clause-quiet g c = λ quiet. (c.requires.quiet quiet).no_drive

pub returns-in_err-write_changes_of_devices : goal.returns-in_err-write_changes_of_devices
returns-in_err-write_changes_of_devices g c =
    WritesAll-stopped _ c.in_err-write_changes_of_devices.ensures refl c.from_residual.ensures.0

pub returns : goal.returns
returns g c = WritesAll-then c.in_ok-write_changes_of_devices.ensures refl c.write_drive_changes.ensures
