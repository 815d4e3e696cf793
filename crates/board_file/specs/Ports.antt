-- The ports of the devices of a board.
use Rattle.std.specs.Prelude.{ℕ, List, [], ◌∷◌, length, max}
use Rattle.bsdl_device.specs.Device.{Device}

-- the most port bits that one of the devices has
abbrev pub most_ports : List Device → ℕ
most_ports [] = 0
most_ports (d ∷ ds) = max (length d.ports) (most_ports ds)
