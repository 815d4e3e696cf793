-- Boards as they are made.
use Rattle.std.specs.Prelude.{◌≡◌, ◌<◌, ◌≤◌, Bool, length}
use Rattle.std.specs.List.{AllByRecursion}
use Rattle.jt_limits.specs.Limits.{limits}
use Rattle.bsdl_device.specs.Sound.{IsSoundDevice}
use Rattle.board_loops.specs.Depending.{IsOrdered}
use Rattle.pin_nets.specs.declared.Rule.TheVariants.{Counted}
use Rattle.pin_nets.specs.Wired.{Net}
use Rattle.board_plan.specs.declared.plan.Plan.{Plan}
use Rattle.board_plan.specs.Planned as planned
use Rattle.board_plan.specs.View.{wiring}
use Rattle.board_model.specs.Chain.{BoardState}
use Rattle.board_model.specs.Resting.{power_up, board_at_rest}
use Rattle.board_model.specs.Planned.{members_of}
use Rattle.board_chain.specs.Chains.{ChainValue}
use Rattle.board_chain.specs.Ready.{IsReady}

-- a board of this chain, at this level of TCK
abbrev pub board_at : Bool → ChainValue → BoardState
board_at tck c = record { tck = tck; trst = c.trst; nets = c.nets; chips = c.chips }

-- a planned board as it powers up
abbrev pub board_of : planned.Wiring → BoardState
board_of w = board_at_rest (power_up w.nets (members_of w))

-- a device or more, no more than the limit, whose descriptions are sound
pub record IsSoundWiring (w : planned.Wiring) : Type 0 where
  pub some : 0 < length w.members
  pub most : length w.members ≤ limits.devices
  pub sound : AllByRecursion (λ (m : planned.Member). IsSoundDevice m.device) w.members

-- What a board is powered up from: its chain is ready, its devices are sound, and the order that it keeps is one of
-- work. How many nets it has does not matter.
pub record PowersUp (p : Plan) : Type 0 where
  pub ready : IsReady (wiring p)
  pub sound : IsSoundWiring (wiring p)
  pub ordered : IsOrdered p

-- What the plan of a board file is: it powers up, its nets are no more than the limit, and each shows what its drivers
-- say by their count.
pub record IsReadyPlan (p : Plan) : Type 0 where
  pub powers_up : PowersUp p
  pub nets : length (wiring p).nets ≤ limits.nets
  pub counted : AllByRecursion (λ (n : Net). n.rule ≡ Counted) (wiring p).nets
