use Rattle.std.proofs.Common.{sym, ap, ◌∙◌}
use Rattle.std.specs.Prelude.{option_map}
use Rattle.bsdl_description.specs.View.{description}
use Rattle.bsdl_rules.specs.Namings.{earliest}
use Rattle.bsdl_rules.specs.Twice.{repeated_inside, repeated_outside}
use Rattle.bsdl_rules.specs.Positions.{either}
use Rattle.bsdl_rules.specs.NamingView.{again}
use Rattle.bsdl_rules.proofs.PositionLaws.{earliest_of}
use Rattle.bsdl_rules.proofs.again.given_again.Goals as goal

pub returns : goal.returns
returns c =
    let d = description c.args.outline.now c.args.described.now in
    c.earlier_again.ensures ∙ ap (λ o. either o (option_map again c.in_ok-inside.inside)) c.in_ok-outside.ensures
    ∙ ap (either (earliest (repeated_outside d))) c.in_ok-inside.ensures ∙ sym (earliest_of (repeated_outside d) (repeated_inside d))
