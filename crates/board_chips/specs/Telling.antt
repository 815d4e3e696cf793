-- How the cells of a device are told what their ports see.
use Rattle.std.specs.Prelude.{◌≡◌, ℕ, Bool, List, map, slice_get, Some}
use Rattle.boundary.specs.Masks.{SeesSighted}
use Rattle.board_plan.specs.Planned.{all_pins}
use Rattle.board_model.specs.Cells.{Member}
use Rattle.board_model.specs.Nets.{pin_drive, sees_under}
use Rattle.board_plan.specs.CellNets.{cell_net}
use Rattle.board_chips.specs.WiredChips.{WiredChipValue, held_of}
use Rattle.board_chips.specs.WiringValues.{WiringValue}

-- Of these devices, each with the core bits that its boundary holds, this one stands at this place, wired to these
-- nets, and what was put to the nets last is what each pin drives.
pub record IsAt (w : WiringValue) (place : ℕ) (held : List Member) (s : WiredChipValue) : Type 0 where
  pub here : slice_get held place ≡ Some (held_of s)
  pub drives : w.drives ≡ map (pin_drive held) (all_pins w.nets)
  pub nets : s.nets ≡ map (cell_net w.nets place) s.chip.device.cells

-- what the device at this place sees at a port bit, where the devices' core bits are these
abbrev pub sight : WiringValue → List Member → ℕ → ℕ → Bool
sight w held place = sees_under w.nets held place

-- each cell that captures what its port sees was told that
abbrev pub TellsAll : WiringValue → WiredChipValue → WiredChipValue → Type 0
TellsAll w old new = (place : ℕ) (held : List Member) → IsAt w place held old
    → SeesSighted (sight w held place) old.chip.device.cells new.chip.boundary.seen
