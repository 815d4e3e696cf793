use Rattle.std.proofs.Common.{◌≡◌, ◌&&◌, true, false, ℕ, ap, sym, ◌∙◌, map, length}
use Rattle.std.specs.Prelude.{nat_le}
use Rattle.std.specs.List.{list_all}
use Rattle.std.proofs.lemmas.List.{length-map}
use Rattle.jt_limits.specs.Limits.{limits}
use Rattle.bsdl_text.specs.NumberView.{value}
use Rattle.bsdl_entity.specs.PortsView as ports_view
use Rattle.bsdl_description.specs.View.{description}
use Rattle.bsdl_rules.specs.Limits.{ports_fit, ports_within}
use Rattle.bsdl_rules.proofs.LimitLaws.{first_fails, rest_is, users_by}
use Rattle.bsdl_opcodes.specs.Users.{users_of}
use Rattle.bsdl_rules.proofs.limits.is_within_limits.Goals as goal

pub returns-then-not-instructions_within : goal.returns-then-not-instructions_within
returns-then-not-instructions_within c = first_fails _ _ (sym (c.if-not-instructions_within.ensures c.args.outline.now))

pub returns-then-not-cells_within : goal.returns-then-not-cells_within
returns-then-not-cells_within c =
    let o = c.args.outline.now in
    first_fails _ _ (sym (c.if-not-cells_within.ensures o)) ∙ rest_is _ _ (sym (c.if-not-instructions_within.ensures o))

pub returns-then-not-ports_within : goal.returns-then-not-ports_within
returns-then-not-ports_within c =
    let o = c.args.outline.now in
    let ports : ports_within (description o c.args.described.now) ≡ false = ap (λ gs. ports_fit (ports_view.ports gs)) (sym c.deref.ensures.value) ∙ sym c.if-not-ports_within.ensures in
    first_fails _ _ ports ∙ rest_is _ _ (sym (c.if-not-cells_within.ensures o)) ∙ rest_is _ _ (sym (c.if-not-instructions_within.ensures o))

pub returns : goal.returns
returns c =
    let o = c.args.outline.now in
    let ports : ports_within (description o c.args.described.now) ≡ true = ap (λ gs. ports_fit (ports_view.ports gs)) (sym c.deref.ensures.value) ∙ sym c.if-not-ports_within.ensures in
    c.users_within.ensures ∙ ap (λ ns. nat_le (length ns) limits.user_registers && list_all (λ n. nat_le n limits.user_bits) (map value ns)) c.deref-2.ensures.value
    ∙ ap (λ (n : ℕ). nat_le n limits.user_registers && list_all (λ n. nat_le n limits.user_bits) (map value c.args.users.now.lengths.items)) (sym (length-map c.args.users.now.lengths.items value))
    ∙ users_by (map value c.args.users.now.lengths.items) (users_of (description o c.args.described.now).accesses) c.requires.lengths ∙ rest_is _ _ ports ∙ rest_is _ _ (sym (c.if-not-cells_within.ensures o)) ∙ rest_is _ _ (sym (c.if-not-instructions_within.ensures o))
