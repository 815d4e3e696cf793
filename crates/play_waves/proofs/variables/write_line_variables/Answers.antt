use Rattle.std.proofs.Common.{refl}
use Rattle.byte_streams.proofs.Fronts.{WritesAll-stopped, WritesAll-then}
use Rattle.play_waves.proofs.variables.write_line_variables.Goals as goal

pub returns-in_err-put_all : goal.returns-in_err-put_all
returns-in_err-put_all g c =
    WritesAll-stopped _ c.in_err-put_all.ensures.writes refl c.from_residual.ensures.0

pub returns-in_err-put_all-2 : goal.returns-in_err-put_all-2
returns-in_err-put_all-2 g c =
    WritesAll-then c.in_ok-put_all.ensures.writes refl
    (WritesAll-stopped _ c.in_err-put_all-2.ensures.writes refl c.from_residual-in_err-put_all-2.ensures.0)

pub returns : goal.returns
returns g c =
    WritesAll-then c.in_ok-put_all.ensures.writes refl
    (WritesAll-then c.in_ok-put_all-2.ensures.writes refl
    (c.put_all-3.ensures.writes))
