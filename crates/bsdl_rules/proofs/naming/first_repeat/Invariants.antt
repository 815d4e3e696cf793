use Rattle.std.proofs.Common.{◌≡◌, map, drop}
use Rattle.std.specs.Prelude.{filter, option_map}
use Rattle.bsdl_rules.specs.Positions.{either}
use Rattle.bsdl_rules.specs.Namings.{earliest, is_repeated}
use Rattle.bsdl_rules.specs.NamingView.{named, naming}
use Rattle.bsdl_rules.proofs.naming.first_repeat.Given as goal

abbrev pub invariant-loop-name : goal.invariant-loop-name
invariant-loop-name l =
    either (option_map naming l.first) (earliest (filter (is_repeated (map (named l.quote) l.names)) (map (named l.quote) (drop l.name-index l.names)))) ≡ earliest (filter (is_repeated (map (named l.quote) l.names)) (map (named l.quote) l.names))
