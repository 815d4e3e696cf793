-- The devices of a chain at the nets of a board.
use Rattle.std.specs.Prelude.{⊤}
use Rattle.std.specs.Prelude.{◌≡◌, ◌<◌, ℕ, suc, List, [], ◌∷◌, map, length}
use Rattle.std.specs.List.{AllByRecursion}
use Rattle.pin_nets.specs.declared.Pin.{Pin}
use Rattle.pin_nets.specs.Wired.{Net}
use Rattle.board_plan.specs.Planned.{all_pins}
use Rattle.board_model.specs.Nets.{pin_drive}
use Rattle.board_plan.specs.CellNets.{cell_net}
use Rattle.board_chips.specs.WiringValues.{WiringValue}
use Rattle.board_chips.specs.WiredChips.{WiredChipValue, held_of}

-- each pin's device is one of so many
abbrev pub ArePinsBelow : ℕ → List Pin → Type 0
ArePinsBelow n pins = AllByRecursion (λ (p : Pin). p.device < n) pins

-- the cells of the devices, from this place on, have their nets
abbrev pub AreWired : List Net → ℕ → List WiredChipValue → Type 0
AreWired nets place [] = ⊤
AreWired nets place (s ∷ ss) = (s.nets ≡ map (cell_net nets place) s.chip.device.cells) × AreWired nets (suc place) ss

-- The one invariant of a board between two edges: what was put to the nets last is what each pin drives, by the core
-- bits that the boundaries hold.
pub record IsWired (chips : List WiredChipValue) (w : WiringValue) : Type 0 where
  pub drives : w.drives ≡ map (pin_drive (map held_of chips)) (all_pins w.nets)
  pub cells : AreWired w.nets 0 chips
  pub pins : ArePinsBelow (length chips) (all_pins w.nets)
