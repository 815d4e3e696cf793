-- The lowest cells that drive port bits.
use Rattle.std.specs.Prelude.{ℕ, nat_lt, ◌==◌, Bool, false, ◌&&◌, List, Option, Some, None, option_and_then, bytes_eq}
use Rattle.std.specs.BTreeMap.{get}
use Rattle.std.specs.Ordering.{nat_cmp, ordering_then}
use Rattle.std.specs.Cmp.Lexicographic.{slice_cmp}
use Rattle.bsdl_device.specs.Driving.{drives}
use Rattle.bsdl_values.specs.CellRows.{CellRow}
use Rattle.bsdl_entity.specs.Ports.{Port}
use Rattle.bsdl_lookup.specs.declared.drivers.Drivers as declared_drivers
use Rattle.bsdl_lookup.specs.declared.port_index.PortIndex.{PortIndex}
use Rattle.bsdl_lookup.specs.NamedPorts.{same_port_index, port_index_of}
use Rattle.bsdl_lookup.specs.View.{port_index}

-- what is kept of a port bit
abbrev pub driver_at : declared_drivers.Drivers → PortIndex → Option ℕ
driver_at d s =
    get (λ x y. ordering_then (nat_cmp x.0 y.0) (slice_cmp nat_cmp x.1.now y.1.now)) d.lowest (s.port, s.index.digits)

abbrev pub is_below : Option ℕ → ℕ → Bool
is_below None n = false
is_below (Some k) n = nat_lt k n

abbrev pub same_bit : PortIndex → PortIndex → Bool
same_bit a b = a.port == b.port && bytes_eq a.index.digits.now b.index.digits.now

-- a row drives this port bit below a cell
abbrev pub drives_below : List Port → PortIndex → ℕ → CellRow → Bool
drives_below ps s n r =
    nat_lt r.number n && (drives r.function
    && same_port_index (option_and_then (port_index_of ps) r.port) (Some (port_index s)))
