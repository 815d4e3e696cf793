use Rattle.std.proofs.Common.{Bool, [], sym, ap, ◌∙◌}
use Rattle.std.specs.Prelude.{if◌then◌else◌}
use Rattle.byte_streams.proofs.Fronts.{WritesAll-is}
use Rattle.wave_files.specs.Values.{byte_change, undriven, wire}
use Rattle.wave_files.proofs.extras.write_tdo_change.Goals as goal

pub returns-then-not-tdos : goal.returns-then-not-tdos
returns-then-not-tdos g c =
    let was = wire undriven c.args.before.now.chip.tdo in
    let is = wire undriven c.args.after.now.chip.tdo in
    WritesAll-is (sym (ap (λ (b : Bool). if b then byte_change c.args.number was is else []) c.if-not-tdos.true)) c.put_all.ensures.writes

pub returns : goal.returns
returns g c =
    let was = wire undriven c.args.before.now.chip.tdo in
    let is = wire undriven c.args.after.now.chip.tdo in
    WritesAll-is
    ((λ i. byte_change c.args.number (c.byte_of_tdo.ensures i) (c.byte_of_tdo-2.ensures i))
    ∙ sym (ap (λ (b : Bool). if b then byte_change c.args.number was is else []) c.if-not-tdos.false))
    c.write_byte_change.ensures
