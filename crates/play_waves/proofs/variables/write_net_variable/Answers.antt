use Rattle.std.proofs.Common.{◌∷◌, ◌++◌, [], List, ℕ, refl, ap, append_assoc}
use Rattle.std.specs.Prelude.{codes}
use Rattle.byte_streams.proofs.Fronts.{WritesAll-is, WritesAll-stopped, WritesAll-then}
use Rattle.wave_files.specs.Codes.{code}
use Rattle.play_waves.proofs.variables.write_net_variable.Goals as goal

pub returns-in_err-put_all : goal.returns-in_err-put_all
returns-in_err-put_all g c =
    WritesAll-stopped _ c.in_err-put_all.ensures.writes refl c.from_residual.ensures.0

pub returns-in_err-write_code : goal.returns-in_err-write_code
returns-in_err-write_code g c =
    let rest = c.args.name.now ++ codes " $end\n" in
    WritesAll-then c.in_ok-put_all.ensures.writes refl
    (WritesAll-is (append_assoc (code c.args.number) (codes " ") rest)
    (WritesAll-stopped rest c.in_err-write_code.ensures refl c.from_residual-in_err-write_code.ensures.0))

pub returns-in_err-put_all-2 : goal.returns-in_err-put_all-2
returns-in_err-put_all-2 g c =
    let rest = c.args.name.now ++ codes " $end\n" in
    WritesAll-then c.in_ok-put_all.ensures.writes refl
    (WritesAll-is (append_assoc (code c.args.number) (codes " ") rest)
    (WritesAll-then c.in_ok-write_code.ensures refl
    (WritesAll-stopped _ c.in_err-put_all-2.ensures.writes refl c.from_residual-in_err-put_all-2.ensures.0)))

pub returns : goal.returns
returns g c =
    let rest = c.args.name.now ++ codes " $end\n" in
    WritesAll-then c.in_ok-put_all.ensures.writes refl
    (WritesAll-is (append_assoc (code c.args.number) (codes " ") rest)
    (WritesAll-then c.in_ok-write_code.ensures refl
    (WritesAll-then c.in_ok-put_all-2.ensures.writes refl
    (c.put_all-3.ensures.writes))))
