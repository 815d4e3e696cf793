-- A chain of devices with its nets, as contracts see it.
use Rattle.std.specs.Prelude.{Bool, false, List, map}
use Rattle.jt_tap.specs.declared.State.TheVariants.{Reset}
use Rattle.pin_nets.specs.Wired.{Net}
use Rattle.board_plan.specs.Planned as planned
use Rattle.board_model.specs.Chain.{ChipState}
use Rattle.board_model.specs.Planned.{members_of}
use Rattle.board_model.specs.Resting.{chip_at_rest}

-- the level of TRST, the nets, and the devices, the first nearest TDO
pub record ChainValue : Type 0 where
  pub trst : Bool
  pub nets : List Net
  pub chips : List ChipState

-- a planned chain as it powers up
abbrev pub chain_of : planned.Wiring → ChainValue
chain_of w = record { trst = false; nets = w.nets; chips = map (chip_at_rest Reset) (members_of w) }
