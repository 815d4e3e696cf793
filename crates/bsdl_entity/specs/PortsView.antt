-- What the port lists of the code stand for.
use Rattle.std.specs.Prelude.{List, map, option_map}
use Rattle.bsdl_text.specs.NumberView.{value as number_value}
use Rattle.bsdl_text.specs.WordView.{word_lexeme}
use Rattle.bsdl_entity.specs.declared.ports.Range as declared_range
use Rattle.bsdl_entity.specs.declared.ports.Group as declared_group
use Rattle.bsdl_entity.specs.Ports.{Range, Port, concat}

abbrev pub range : declared_range.Range → Range
range r = record { low = number_value r.low; high = number_value r.high }

-- each name of a group is a port
abbrev pub group : declared_group.Group → List Port
group g = map (λ n. record { name = n; mode = g.mode; range = option_map range g.range })
    (map word_lexeme g.names.items)

abbrev pub ports : List declared_group.Group → List Port
ports groups = concat (map group groups)
