use Rattle.std.proofs.Common.{◌++◌, refl, append_assoc}
use Rattle.std.specs.Prelude.{codes}
use Rattle.byte_streams.proofs.Fronts.{WritesAll-is, WritesAll-stopped, WritesAll-then}
use Rattle.wave_files.specs.Codes.{code}
use Rattle.wave_files.specs.Heading.{fronted, pin_name}
use Rattle.play_waves.proofs.pins.write_drive_variable.Goals as goal

pub returns-in_err-put_all : goal.returns-in_err-put_all
returns-in_err-put_all g c = WritesAll-stopped _ c.in_err-put_all.ensures.writes refl c.from_residual.ensures.0

pub returns-in_err-write_code : goal.returns-in_err-write_code
returns-in_err-write_code g c =
    let rest = (fronted c.args.net.now ++ pin_name c.args.chain.now.chips c.args.pin) ++ codes " $end\n" in
    WritesAll-then c.in_ok-put_all.ensures.writes refl
    (WritesAll-is (append_assoc (code c.args.number) (codes " ") rest)
    (WritesAll-stopped rest c.in_err-write_code.ensures refl c.from_residual-in_err-write_code.ensures.0))

pub returns-in_err-write_leaf : goal.returns-in_err-write_leaf
returns-in_err-write_leaf g c =
    let rest = (fronted c.args.net.now ++ pin_name c.args.chain.now.chips c.args.pin) ++ codes " $end\n" in
    WritesAll-then c.in_ok-put_all.ensures.writes refl
    (WritesAll-is (append_assoc (code c.args.number) (codes " ") rest)
    (WritesAll-then c.in_ok-write_code.ensures refl
    (WritesAll-stopped _ c.in_err-write_leaf.ensures refl c.from_residual-in_err-write_leaf.ensures.0)))

pub returns : goal.returns
returns g c =
    let rest = (fronted c.args.net.now ++ pin_name c.args.chain.now.chips c.args.pin) ++ codes " $end\n" in
    WritesAll-then c.in_ok-put_all.ensures.writes refl
    (WritesAll-is (append_assoc (code c.args.number) (codes " ") rest)
    (WritesAll-then c.in_ok-write_code.ensures refl
    (WritesAll-then c.in_ok-write_leaf.ensures refl c.put_all-2.ensures.writes)))
