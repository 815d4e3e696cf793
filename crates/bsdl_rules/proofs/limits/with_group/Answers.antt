use Rattle.std.proofs.Common.{◌≡◌, ◌*◌, ℕ, length, sym, ap, ◌∙◌}
use Rattle.bsdl_entity.specs.PortsView.{group}
use Rattle.bsdl_rules.proofs.WidthLaws.{counted, named_total, total}
use Rattle.bsdl_rules.proofs.limits.with_group.Goals as goal

pub returns : goal.returns
returns c =
    let g = c.args.group.now in
    let names : c.len.result ≡ length g.names.items = c.len.ensures ∙ g.names.ok.0 in
    let bits : c.width_of.result * c.len.result ≡ total (group g) =
    ap (λ (n : ℕ). c.width_of.result * n) names ∙ ap (λ (n : ℕ). n * length g.names.items) c.width_of.ensures.width ∙ sym (named_total g.mode g.range g.names.items) in
    counted c.args.before (c.width_of.result * c.len.result) (total (group g)) c.saturating_mul-bits.result c.saturating_add.result c.min.result bits c.saturating_mul-bits.ensures c.saturating_add.ensures c.min.ensures
