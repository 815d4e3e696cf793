use Rattle.std.proofs.Common.{refl}
use Rattle.byte_streams.proofs.Fronts.{WritesAll-stopped, WritesAll-then}
use Rattle.play_waves.proofs.variables.write_note_variables.Goals as goal

pub returns-in_err-write_variable : goal.returns-in_err-write_variable
returns-in_err-write_variable g c =
    (WritesAll-stopped _ c.in_err-write_variable.ensures refl c.from_residual.ensures.0)

pub returns-in_err-write_variable-2 : goal.returns-in_err-write_variable-2
returns-in_err-write_variable-2 g c =
    (WritesAll-then c.in_ok-write_variable.ensures refl
    (WritesAll-stopped _ c.in_err-write_variable-2.ensures refl c.from_residual-in_err-write_variable-2.ensures.0))

pub returns-in_err-write_variable-3 : goal.returns-in_err-write_variable-3
returns-in_err-write_variable-3 g c =
    (WritesAll-then c.in_ok-write_variable.ensures refl
    (WritesAll-then c.in_ok-write_variable-2.ensures refl
    (WritesAll-stopped _ c.in_err-write_variable-3.ensures refl c.from_residual-in_err-write_variable-3.ensures.0)))

pub returns : goal.returns
returns g c =
    (WritesAll-then c.in_ok-write_variable.ensures refl
    (WritesAll-then c.in_ok-write_variable-2.ensures refl
    (WritesAll-then c.in_ok-write_variable-3.ensures refl
    (c.write_variable-4.ensures))))
