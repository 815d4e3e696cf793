use Rattle.std.proofs.Common.{◌≡◌, ap, sym, ◌∙◌, map}
use Rattle.std.specs.Prelude.{option_map}
use Rattle.bsdl_entity.specs.PortsView as ports_view
use Rattle.bsdl_entity.specs.GivenView as given_view
use Rattle.bsdl_rules.specs.Namings.{earliest, repeated}
use Rattle.bsdl_rules.specs.Twice.{outside}
use Rattle.bsdl_rules.specs.Positions.{either}
use Rattle.bsdl_rules.specs.NamingView.{again}
use Rattle.bsdl_rules.proofs.PositionLaws.{earliest_of}
use Rattle.bsdl_rules.proofs.again.outside_again.Goals as goal

pub returns : goal.returns
returns c =
    let ports = repeated (map (λ p. outside p.name) (ports_view.ports c.args.outline.now.groups.items)) in
    let attributes = repeated (map (λ g. outside g.name) (map given_view.given c.args.outline.now.given.items)) in
    let port : option_map again c.in_ok-port.port ≡ earliest ports =
    c.in_ok-port.ensures ∙ ap (λ gs. earliest (repeated (map (λ p. outside p.name) (ports_view.ports gs)))) c.deref.ensures.value in
    let attribute : option_map again c.in_ok-attribute.attribute ≡ earliest attributes =
    c.in_ok-attribute.ensures ∙ ap (λ gs. earliest (repeated (map (λ g. outside g.name) (map given_view.given gs)))) c.deref-2.ensures.value in
    c.earlier_again.ensures ∙ ap (λ o. either o (option_map again c.in_ok-attribute.attribute)) port ∙ ap (either (earliest ports)) attribute
    ∙ sym (earliest_of ports attributes)
