use Rattle.std.proofs.Common.{Bool, [], sym, ap, ◌∙◌}
use Rattle.std.specs.Prelude.{if◌then◌else◌}
use Rattle.byte_streams.proofs.Fronts.{WritesAll-is}
use Rattle.wave_files.specs.Values.{byte_line, undriven, wire}
use Rattle.wave_files.proofs.extras.write_tdo.Goals as goal

pub returns-then-not-tdos : goal.returns-then-not-tdos
returns-then-not-tdos g c =
    WritesAll-is
    (sym (ap (λ (b : Bool). if b then byte_line c.args.number (wire undriven c.args.chip.now.chip.tdo) else []) c.if-not-tdos.true))
    c.put_all.ensures.writes

pub returns : goal.returns
returns g c =
    WritesAll-is
    (ap (byte_line c.args.number) c.byte_of_tdo.ensures
    ∙ sym (ap (λ (b : Bool). if b then byte_line c.args.number (wire undriven c.args.chip.now.chip.tdo) else []) c.if-not-tdos.false))
    c.write_byte.ensures
