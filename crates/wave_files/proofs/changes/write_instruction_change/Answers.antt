use Rattle.std.proofs.Common.{Bool, [], sym, ap, ◌∙◌}
use Rattle.std.specs.Prelude.{if◌then◌else◌}
use Rattle.byte_streams.proofs.Fronts.{WritesAll-is}
use Rattle.wave_files.specs.Values.{instruction_line}
use Rattle.wave_files.proofs.changes.write_instruction_change.Goals as goal

pub returns-then-are_same : goal.returns-then-are_same
returns-then-are_same g c =
    WritesAll-is (ap (λ (x : Bool). if x then [] else instruction_line c.args.number c.args.after.now) (sym c.if-are_same.true ∙ c.are_same.ensures))
    c.put_all.ensures.writes

pub returns : goal.returns
returns g c =
    WritesAll-is (ap (λ (x : Bool). if x then [] else instruction_line c.args.number c.args.after.now) (sym c.if-are_same.false ∙ c.are_same.ensures))
    c.write_instruction.ensures
