-- The ports of one group.
use Rattle.std.proofs.Common.{List, map}
use Rattle.std.specs.Prelude.{Option, option_map}
use Rattle.bsdl_device.specs.declared.PortMode.{PortMode}
use Rattle.bsdl_text.specs.WordView.{word_lexeme}
use Rattle.bsdl_text.specs.declared.names.Word.{Word}
use Rattle.bsdl_entity.specs.declared.ports.Range as declared_range
use Rattle.bsdl_entity.specs.Ports.{Port, Range}
use Rattle.bsdl_entity.specs.PortsView as view

-- words, each a port of this kind
abbrev pub ports_named : PortMode → Option declared_range.Range → List Word → List Port
ports_named mode r ws = map (λ n. record { name = n; mode = mode; range = option_map view.range r }) (map word_lexeme ws)
