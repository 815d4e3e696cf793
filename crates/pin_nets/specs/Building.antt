-- Nets as a board gives them.
use Rattle.std.specs.Prelude.{◌≡◌, ◌<◌, ◌++◌, ℕ, List, length, replicate, slice_get, slice_index, Some}
use Rattle.pin_nets.specs.declared.build.NetSpec.{NetSpec}
use Rattle.pin_nets.specs.declared.Drive.TheVariants.{Nothing}
use Rattle.pin_nets.specs.Levels.{NetValue, NetsValue}
use Rattle.pin_nets.specs.Places.{lone_nets}

abbrev pub net_value : NetSpec → NetValue
net_value s = record { pull = s.pull; rule = s.rule; pins = s.pins.items }

-- each pin is one of so many
pub record HasPinsBelow (pins : ℕ) (nets : List NetValue) : Type 0 where
  pub each : (n i : ℕ) (x : NetValue) → slice_get nets n ≡ Some x → i < length x.pins → slice_index x.pins i < pins

-- the nets, and each pin on none of them as a net by itself; no pin drives
abbrev pub built : ℕ → List NetValue → NetsValue
built pins nets = record { drives = replicate pins Nothing; nets = nets ++ lone_nets nets pins }
