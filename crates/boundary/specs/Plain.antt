-- The cells without a control: whenever a device drives its pins, such a cell drives its port with its own bit.
use Rattle.std.specs.Prelude.{Bool, true, false, List, map, Option, Some, None}
use Rattle.bsdl_device.specs.declared.Cell.{Cell}
use Rattle.bsdl_device.specs.declared.Control3.{Control3}

abbrev pub has_no_control : Option Control3 → Bool
has_no_control None = true
has_no_control (Some t) = false

abbrev pub plain_cells : List Cell → List Bool
plain_cells cells = map (λ (c : Cell). has_no_control c.control) cells
