use Rattle.std.proofs.Common.{map, sym, ap}
use Rattle.bsdl_rules.specs.Namings.{earliest}
use Rattle.bsdl_rules.specs.NamingView.{named}
use Rattle.bsdl_rules.proofs.DistinctLaws.{none_repeated}
use Rattle.bsdl_rules.proofs.naming.first_again.Goals as goal

pub returns-then-branch : goal.returns-then-branch
returns-then-branch c =
    let names = map (named c.args.quote) c.args.names.now in
    sym (ap earliest (none_repeated names (c.in_ok-are_distinct.ensures c.if-branch.true c.args.quote)))
