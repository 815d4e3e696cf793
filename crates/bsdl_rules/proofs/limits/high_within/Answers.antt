use Rattle.std.proofs.Common.{◌≢◌, length, sym, ◌∙◌, arith}
use Rattle.std.proofs.lemmas.Bool.Decides.{nat_tests}
use Rattle.bsdl_rules.proofs.WidthLaws.{named_within}
use Rattle.bsdl_rules.proofs.limits.high_within.Goals as goal

pub returns-else-is_empty : goal.returns-else-is_empty
returns-else-is_empty c =
    let g = c.args.group.now in
    let some : length g.names.items ≢ 0 = λ e. absurd (grind (arith, nat_tests, e, g.names.ok.0, c.if-is_empty.ensures)) in
    c.is_range_within.ensures ∙ sym (named_within g.mode g.range g.names.items some)
