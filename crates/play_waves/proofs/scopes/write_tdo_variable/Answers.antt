use Rattle.std.proofs.Common.{Bool, [], ◌++◌, refl, sym, ap}
use Rattle.std.specs.Prelude.{codes, if◌then◌else◌}
use Rattle.byte_streams.proofs.Fronts.{WritesAll-is, WritesAll-stopped, WritesAll-then}
use Rattle.wave_files.specs.Heading.{named}
use Rattle.play_waves.proofs.scopes.write_tdo_variable.Goals as goal

pub returns-then-not-tdos : goal.returns-then-not-tdos
returns-then-not-tdos g c =
    WritesAll-is
    (sym (ap (λ (b : Bool). if b then codes "$var wire 1 " ++ named c.args.number c.args.device.now (codes "_tdo") else []) c.if-not-tdos.true))
    c.put_all.ensures.writes

pub returns-in_err-put_all : goal.returns-in_err-put_all
returns-in_err-put_all g c =
    WritesAll-is
    (sym (ap (λ (b : Bool). if b then codes "$var wire 1 " ++ named c.args.number c.args.device.now (codes "_tdo") else []) c.if-not-tdos.false))
    (WritesAll-stopped _ c.in_err-put_all.ensures.writes refl c.from_residual.ensures.0)

pub returns : goal.returns
returns g c =
    WritesAll-is
    (sym (ap (λ (b : Bool). if b then codes "$var wire 1 " ++ named c.args.number c.args.device.now (codes "_tdo") else []) c.if-not-tdos.false))
    (WritesAll-then c.in_ok-put_all.ensures.writes refl (c.write_named.ensures))
