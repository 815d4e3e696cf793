-- How a planned chain is made.
use Rattle.std.specs.Prelude.{ℕ, suc, List, [], ◌∷◌, map, Option}
use Rattle.std.specs.List.{AllByRecursion}
use Rattle.scan_registers.specs.Chips.{powered}
use Rattle.chip_instructions.specs.Fitting.{IsFormed}
use Rattle.pin_nets.specs.Wired.{Net}
use Rattle.boundary.specs.Cells as cells
use Rattle.board_plan.specs.CellNets.{cell_net}
use Rattle.board_plan.specs.Planned.{HasCore, IsPinOf, all_pins}
use Rattle.board_plan.specs.Planned as planned
use Rattle.board_chips.specs.WiredChips.{WiredChipValue}

-- a planned device as it powers up, its cells on these nets
abbrev pub wired_chip_of : List (Option ℕ) → planned.Member → WiredChipValue
wired_chip_of nets m = record {
  name = m.name;
  chip = powered m.device (cells.powered m.device.cells m.core m.extest_update);
  constants = m.core;
  follows = m.follows;
  nets = nets;
}

-- the devices from this place on
abbrev pub wired_chips_of : List Net → ℕ → List planned.Member → List WiredChipValue
wired_chips_of nets place [] = []
wired_chips_of nets place (m ∷ ms) =
    wired_chip_of (map (cell_net nets place) m.device.cells) m ∷ wired_chips_of nets (suc place) ms

-- what a chain is made of: the cores are whole, the pins are port bits, the descriptions are formed
pub record IsReady (w : planned.Wiring) : Type 0 where
  pub cores : AllByRecursion HasCore w.members
  pub pins : AllByRecursion (IsPinOf w.members) (all_pins w.nets)
  pub formed : AllByRecursion (λ (m : planned.Member). IsFormed m.device) w.members
