-- The nets of a board, as a board file names them.
use Rattle.std.specs.Prelude.{Bool, ◌&&◌, ℕ, ◌==◌, List}
use Rattle.std.specs.List.{list_any}
use Rattle.pin_nets.specs.declared.Pin.{Pin}
use Rattle.pin_nets.specs.declared.Pull.{Pull}
use Rattle.pin_nets.specs.declared.Rule.{Rule}

-- its name, its pull, its rule, and its pins
pub record Net : Type 0 where
  pub name : List ℕ
  pub pull : Pull
  pub rule : Rule
  pub pins : List Pin

-- whether one of these pins is this port bit of the device at a place
abbrev pub has_port_bit : (place port : ℕ) → List Pin → Bool
has_port_bit place port pins = list_any (λ (pin : Pin). (pin.device == place) && (pin.port == port)) pins

abbrev pub joins : (place port : ℕ) → Net → Bool
joins place port net = has_port_bit place port net.pins
