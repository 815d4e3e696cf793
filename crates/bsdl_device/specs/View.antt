-- What the parts of a description stand for.
use Rattle.std.specs.Prelude.{ℕ, ◌<◌, false, List, [], ◌∷◌, map, length, slice_get, Option, Some, None, string_bytes}
use Rattle.std.specs.List.{range_with_len}
use Rattle.bsdl_device.specs.declared.port_bits.Port.{Port}
use Rattle.bsdl_device.specs.declared.port_bits.Indices.{Indices}
use Rattle.bsdl_device.specs.declared.port_bits.BitPlace.{BitPlace}
use Rattle.bsdl_device.specs.declared.port_bits.PortBit as declared_bit
use Rattle.bsdl_device.specs.declared.PortMode.TheVariants.{In}
use Rattle.bsdl_device.specs.Device.{PortBit}

-- a port and one of its indices
abbrev pub bit_of : Option Port → Option ℕ → PortBit
bit_of (Some p) index = record { name = string_bytes p.name; index = index; mode = p.mode; is_tap = p.is_tap }
bit_of None index = record { name = []; index = index; mode = In; is_tap = false }

-- a bit by the place of its port among these
abbrev pub placed : List Port → BitPlace → PortBit
placed ports b = bit_of (slice_get ports b.port) b.index

-- its port is there
abbrev pub IsPlaced : List Port → BitPlace → Type 0
IsPlaced ports b = b.port < length ports

abbrev pub pair : Indices → ℕ × ℕ
pair i = (i.low, i.len)

-- the places of a port's bits
abbrev pub places : ℕ → Option Indices → List BitPlace
places port None = record { port = port; index = None } ∷ []
places port (Some i) = map (λ k. record { port = port; index = Some k }) (range_with_len i.low i.len)

abbrev pub port_bit : declared_bit.PortBit → PortBit
port_bit b = record { name = b.name.now; index = b.index; mode = b.mode; is_tap = b.is_tap }
