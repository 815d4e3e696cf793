-- The ports of a device bit by bit, and the cells of its boundary register (IEEE Std 1149.1-2001, Annex B.8.3 and
-- B.8.14).
use Rattle.std.specs.Prelude.{ℕ, ◌+◌, ◌-◌, ◌==◌, filter, option_and_then, if◌then◌else◌, List, map}
use Rattle.std.specs.Prelude.{None, option_map}
use Rattle.std.specs.List.{range_with_len, flat_map}
use Rattle.bsdl_text.specs.Words.{upper}
use Rattle.bsdl_device.specs.Device.{Name, PortBit}
use Rattle.bsdl_device.specs.Driving.{drives}
use Rattle.bsdl_device.specs.Ports.{bits_of}
use Rattle.bsdl_device.specs.declared.Cell.{Cell}
use Rattle.bsdl_values.specs.CellRows.{CellRow}
use Rattle.bsdl_entity.specs.Ports.{Port}
use Rattle.bsdl_lookup.specs.PortNumbers.{bit_number}
use Rattle.bsdl_text.specs.Words.{is_among}

-- the bits of a port, by rising index
abbrev pub port_bits : List Name → Port → List PortBit
port_bits taps p =
    bits_of (upper p.name.text) p.mode (is_among taps (upper p.name.text))
    (option_map (λ r. (r.low, r.high - r.low + 1)) p.range)

-- the control counts at the cells that drive
abbrev pub cell : List Port → CellRow → Cell
cell ps r =
    record {
      function = r.function;
      port = option_and_then (bit_number 0 ps) r.port;
      control = if drives r.function
          then r.control else None;
    }

-- cells stand by their numbers
abbrev pub cells_of : List Port → List CellRow → ℕ → List Cell
cells_of ps rows len = flat_map (λ k. map (cell ps) (filter (λ r. r.number == k) rows)) (range_with_len 0 len)
