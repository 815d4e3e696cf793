use Rattle.std.proofs.Common.{Bool, [], sym, ap}
use Rattle.std.specs.Prelude.{if◌then◌else◌}
use Rattle.std.proofs.lemmas.Bool.{eq-eqb, ne_eqb}
use Rattle.byte_streams.proofs.Fronts.{WritesAll-is}
use Rattle.wave_files.specs.Values.{byte_line}
use Rattle.wave_files.proofs.changes.write_byte_change.Goals as goal

pub returns-then-before-after : goal.returns-then-before-after
returns-then-before-after g c =
    WritesAll-is (ap (λ (x : Bool). if x then [] else byte_line c.args.number c.args.after) (sym (eq-eqb c.args.before c.args.after c.if-before-after.true)))
    c.put_all.ensures.writes

pub returns : goal.returns
returns g c =
    WritesAll-is (ap (λ (x : Bool). if x then [] else byte_line c.args.number c.args.after) (sym (ne_eqb c.args.before c.args.after c.if-before-after.false)))
    c.write_byte.ensures
