use Rattle.std.proofs.Common.{refl}
use Rattle.byte_streams.proofs.Fronts.{WritesAll-stopped, WritesAll-then}
use Rattle.wave_files.proofs.changes.write_further_lines.Goals as goal

pub returns-in_err-write_byte_change : goal.returns-in_err-write_byte_change
returns-in_err-write_byte_change g c =
    WritesAll-stopped _ c.in_err-write_byte_change.ensures refl c.from_residual.ensures.0

pub returns-in_err-write_byte_change-2 : goal.returns-in_err-write_byte_change-2
returns-in_err-write_byte_change-2 g c =
    WritesAll-then c.in_ok-write_byte_change.ensures refl
    (WritesAll-stopped _ c.in_err-write_byte_change-2.ensures refl c.from_residual-in_err-write_byte_change-2.ensures.0)

pub returns-in_err-write_byte_change-3 : goal.returns-in_err-write_byte_change-3
returns-in_err-write_byte_change-3 g c =
    WritesAll-then c.in_ok-write_byte_change.ensures refl
    (WritesAll-then c.in_ok-write_byte_change-2.ensures refl
    (WritesAll-stopped _ c.in_err-write_byte_change-3.ensures refl c.from_residual-in_err-write_byte_change-3.ensures.0))

pub returns : goal.returns
returns g c =
    WritesAll-then c.in_ok-write_byte_change.ensures refl
    (WritesAll-then c.in_ok-write_byte_change-2.ensures refl
    (WritesAll-then c.in_ok-write_byte_change-3.ensures refl
    (c.write_byte_change-4.ensures)))
