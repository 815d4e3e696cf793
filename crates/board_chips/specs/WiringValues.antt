-- The nets of a board as the code keeps them: pins by number, and what is put to each.
use Rattle.std.specs.Prelude.{List, ◌++◌, length}
use Rattle.pin_nets.specs.declared.Drive.{Drive}
use Rattle.pin_nets.specs.Levels.{NetValue}
use Rattle.pin_nets.specs.Places.{lone_nets}
use Rattle.pin_nets.specs.Wired.{Net}
use Rattle.board_plan.specs.PinNumbers.{with_pin_numbers}
use Rattle.board_plan.specs.Planned.{all_pins}

-- the nets, and what each of their pins drives, net after net
pub record WiringValue : Type 0 where
  pub nets : List Net
  pub drives : List Drive

-- the nets by the numbers of their pins, and each pin that would be on none of them by itself
abbrev pub all_nets : List Net → List NetValue
all_nets nets = with_pin_numbers 0 nets ++ lone_nets (with_pin_numbers 0 nets) (length (all_pins nets))
