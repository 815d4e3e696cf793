use Rattle.std.proofs.Common.{refl}
use Rattle.byte_streams.proofs.Fronts.{WritesAll-stopped, WritesAll-then}
use Rattle.play_waves.proofs.scopes.write_extras_named.Goals as goal

pub returns-in_err-write_scope : goal.returns-in_err-write_scope
returns-in_err-write_scope g c =
    WritesAll-stopped _ c.in_err-write_scope.ensures refl c.from_residual.ensures.0

pub returns-in_err-write_name_variable : goal.returns-in_err-write_name_variable
returns-in_err-write_name_variable g c =
    WritesAll-then c.in_ok-write_scope.ensures refl
    (WritesAll-stopped _ c.in_err-write_name_variable.ensures refl c.from_residual-in_err-write_name_variable.ensures.0)

pub returns-in_err-write_tdo_variable : goal.returns-in_err-write_tdo_variable
returns-in_err-write_tdo_variable g c =
    WritesAll-then c.in_ok-write_scope.ensures refl
    (WritesAll-then c.in_ok-write_name_variable.ensures refl
    (WritesAll-stopped _ c.in_err-write_tdo_variable.ensures refl c.from_residual-in_err-write_tdo_variable.ensures.0))

pub returns : goal.returns
returns g c =
    WritesAll-then c.in_ok-write_scope.ensures refl
    (WritesAll-then c.in_ok-write_name_variable.ensures refl
    (WritesAll-then c.in_ok-write_tdo_variable.ensures refl
    (c.put_all.ensures.writes)))
