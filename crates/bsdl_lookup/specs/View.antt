-- What the ports and port bits of the code stand for.
use Rattle.std.specs.Prelude.{ℕ, Option, option_map}
use Rattle.bsdl_text.specs.NumberView.{value}
use Rattle.bsdl_entity.specs.Ports.{Range}
use Rattle.bsdl_entity.specs.PortsView.{range}
use Rattle.bsdl_lookup.specs.declared.numbered_ports.NumberedPort as declared_numbered_port
use Rattle.bsdl_lookup.specs.declared.port_index.PortIndex as declared_port_index

abbrev pub numbered_port : declared_numbered_port.NumberedPort → ℕ × Option Range
numbered_port p = (p.number, option_map range p.range)

abbrev pub port_index : declared_port_index.PortIndex → ℕ × ℕ
port_index p = (p.port, value p.index)
