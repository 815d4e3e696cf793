use Rattle.std.proofs.Common.{refl, sym}
use Rattle.byte_streams.proofs.Fronts.{WritesAll-is, WritesAll-stopped, WritesAll-then}
use Rattle.wave_files.proofs.changes.write_board_changes.Goals as goal

pub write_device_changes-requires-clause-quiet : goal.write_device_changes-requires-clause-quiet
write_device_changes-requires-clause-quiet g c = λ quiet. (c.requires.quiet quiet).no_instruction

pub returns-in_err-write_device_changes : goal.returns-in_err-write_device_changes
returns-in_err-write_device_changes g c =
    WritesAll-stopped _ c.in_err-write_device_changes.ensures refl c.from_residual.ensures.0

pub returns-then-quiet : goal.returns-then-quiet
returns-then-quiet g c =
    WritesAll-then c.in_ok-write_device_changes.ensures refl
    (WritesAll-is (sym (c.requires.quiet c.if-quiet.true).no_net) c.put_all.ensures.writes)

pub returns : goal.returns
returns g c =
    WritesAll-then c.in_ok-write_device_changes.ensures refl
    (c.write_net_changes.ensures)
