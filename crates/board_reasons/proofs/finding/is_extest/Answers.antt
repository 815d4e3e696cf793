use Rattle.std.proofs.Common.{Some, Bool, sym, ap, ◌∙◌}
use Rattle.std.specs.Prelude.{◌&&◌, not, bytes_eq}
use Rattle.std.specs.List.{list_any}
use Rattle.board_reasons.proofs.Instructions.{extest_by_name}
use Rattle.board_reasons.proofs.finding.is_extest.Goals as goal

pub returns-then-eq : goal.returns-then-eq
returns-then-eq c =
    let d = c.args.device.now in
    let name = c.args.name.now in
    ap not c.is_private.ensures
    ∙ ap (λ (b : Bool). b && not (list_any (bytes_eq name) d.private_names)) (sym c.if-eq.true ∙ c.eq.ensures)
    ∙ sym (extest_by_name d (Some name))

pub returns-else-eq : goal.returns-else-eq
returns-else-eq c =
    let d = c.args.device.now in
    let name = c.args.name.now in
    c.if-eq.false
    ∙ ap (λ (b : Bool). b && not (list_any (bytes_eq name) d.private_names)) (sym c.if-eq.false ∙ c.eq.ensures)
    ∙ sym (extest_by_name d (Some name))
