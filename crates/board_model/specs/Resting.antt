-- The one bridge: the edge state of a board at rest.
use Rattle.std.specs.Prelude.{◌≡◌, true, false, List, map, None}
use Rattle.std.specs.List.{AllByRecursion}
use Rattle.jt_tap.specs.Controller.{is_stable}
use Rattle.jt_tap.specs.declared.State.{State}
use Rattle.jt_tap.specs.declared.State.TheVariants.{Reset}
use Rattle.board_model.specs.Cells.{Member}
use Rattle.pin_nets.specs.Wired.{Net}
use Rattle.board_model.specs.Chain.{ChipState, BoardState, is_held}
use Rattle.board_model.specs.Whole.{AtRest, reset_member}

-- a device whose controller stands in a state, its TDO undriven
abbrev pub chip_at_rest : State → Member → ChipState
chip_at_rest s m = record { member = m; state = s; tdo = None }

abbrev pub board_at_rest : AtRest → BoardState
board_at_rest m = record { tck = false; trst = m.trst; nets = m.nets; chips = map (chip_at_rest m.place) m.members }

-- a board as it powers up
abbrev pub power_up : List Net → List Member → AtRest
power_up nets ms = record { place = Reset; trst = false; nets = nets; members = ms }

-- TCK is low, every controller stands in the place, no TDO is driven, registers and TRST line are the same.
abbrev pub IsAtRest : BoardState → AtRest → Type 0
IsAtRest b m = b ≡ board_at_rest m

-- The place is stable; in RESET nothing is left to reset; a device held in RESET by TRST is there.
pub record IsRest (m : AtRest) : Type 0 where
  pub stable : is_stable m.place ≡ true
  pub at_reset : m.place ≡ Reset → map reset_member m.members ≡ m.members
  pub held : AllByRecursion (λ d. is_held m.trst d ≡ true → m.place ≡ Reset) m.members
