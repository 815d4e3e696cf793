use Rattle.std.proofs.Common.{◌≡◌, ◌++◌, map, take}
use Rattle.std.specs.Prelude.{None, option_map}
use Rattle.bsdl_entity.specs.Ports.{Port}
use Rattle.bsdl_entity.specs.PortsView.{range}
use Rattle.bsdl_text.specs.WordView.{word_lexeme}
use Rattle.bsdl_rules.specs.Twice.{outside}
use Rattle.bsdl_rules.specs.NamingView.{named}
use Rattle.bsdl_rules.proofs.again.add_group.Given as goal

abbrev pub invariant-loop-name : goal.invariant-loop-name
invariant-loop-name l =
    map (named None) l.names.items
    ≡ map (named None) l.initial.names.items ++ map (λ (p : Port). outside p.name) (map (λ n. record { name = n; mode = l.group.mode; range = option_map range l.group.range }) (map word_lexeme (take l.name-index l.group.names.items)))
