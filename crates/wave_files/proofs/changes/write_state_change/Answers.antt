use Rattle.std.proofs.Common.{Bool, [], sym, ap, ◌∙◌}
use Rattle.std.specs.Prelude.{if◌then◌else◌}
use Rattle.byte_streams.proofs.Fronts.{WritesAll-is}
use Rattle.wave_files.specs.Values.{state_lines}
use Rattle.wave_files.proofs.changes.write_state_change.Goals as goal

pub returns-then-is_same_state : goal.returns-then-is_same_state
returns-then-is_same_state g c =
    WritesAll-is (ap (λ (x : Bool). if x then [] else state_lines c.args.number c.args.after) (sym c.if-is_same_state.true ∙ c.is_same_state.ensures))
    c.put_all.ensures.writes

pub returns : goal.returns
returns g c =
    WritesAll-is (ap (λ (x : Bool). if x then [] else state_lines c.args.number c.args.after) (sym c.if-is_same_state.false ∙ c.is_same_state.ensures))
    c.write_state.ensures
