-- What ports by the keys of their names stand for.
use Rattle.std.specs.Prelude.{◌≡◌, ℕ, List, Option, option_map, option_and_then, slice_get}
use Rattle.std.specs.BTreeMap.{get}
use Rattle.name_keys.specs.Keys.{key_order}
use Rattle.bsdl_entity.specs.Ports.{Range, Port}
use Rattle.bsdl_entity.specs.PortsView.{range}
use Rattle.bsdl_entity.specs.declared.ports.Range as declared_range
use Rattle.bsdl_lookup.specs.declared.keyed_ports.GroupedPort as declared_grouped_port
use Rattle.bsdl_lookup.specs.declared.keyed_ports.KeyedPorts as declared_keyed_ports
use Rattle.bsdl_lookup.specs.NamedPorts.{find_port}

-- the range of the group at a place, where it has one
abbrev pub range_at : List (Option declared_range.Range) → ℕ → Option Range
range_at ranges place = option_and_then (option_map range) (slice_get ranges place)

-- a port with the range of its group
abbrev pub grouped_port : List (Option declared_range.Range) → declared_grouped_port.GroupedPort → ℕ × Option Range
grouped_port ranges p = (p.number, range_at ranges p.group)

-- the first port of a name in upper case, as it is kept
abbrev pub port_keyed : declared_keyed_ports.KeyedPorts → List ℕ → Option (ℕ × Option Range)
port_keyed p q = option_map (grouped_port p.ranges.items) (get key_order p.by_key q)

-- the ports of an entity, as the keys of their names find them
abbrev pub AreKeyed : declared_keyed_ports.KeyedPorts → List Port → Type 0
AreKeyed p ps = (q : List ℕ) → port_keyed p q ≡ find_port 0 ps q
