use Rattle.std.proofs.Common.{◌≡◌, map, take}
use Rattle.std.specs.Prelude.{None}
use Rattle.bsdl_entity.specs.GivenView.{given}
use Rattle.bsdl_rules.specs.Twice.{outside}
use Rattle.bsdl_rules.specs.NamingView.{named}
use Rattle.bsdl_rules.proofs.again.attribute_names.Given as goal

abbrev pub invariant-loop-giving : goal.invariant-loop-giving
invariant-loop-giving l = map (named None) l.names.items ≡ map (λ g. outside g.name) (map given (take l.giving-index l.given))
