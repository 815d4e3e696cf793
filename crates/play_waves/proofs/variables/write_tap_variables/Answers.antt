use Rattle.std.proofs.Common.{refl}
use Rattle.byte_streams.proofs.Fronts.{WritesAll-stopped, WritesAll-then}
use Rattle.play_waves.proofs.variables.write_tap_variables.Goals as goal

pub returns-in_err-write_line_variables : goal.returns-in_err-write_line_variables
returns-in_err-write_line_variables g c =
    (WritesAll-stopped _ c.in_err-write_line_variables.ensures refl c.from_residual.ensures.0)

pub returns-in_err-write_noted_variables : goal.returns-in_err-write_noted_variables
returns-in_err-write_noted_variables g c =
    (WritesAll-then c.in_ok-write_line_variables.ensures refl
    (WritesAll-stopped _ c.in_err-write_noted_variables.ensures refl c.from_residual-in_err-write_noted_variables.ensures.0))

pub returns : goal.returns
returns g c =
    (WritesAll-then c.in_ok-write_line_variables.ensures refl
    (WritesAll-then c.in_ok-write_noted_variables.ensures refl
    (c.put_all.ensures.writes)))
