-- Boards with a fault, as they are made.
use Rattle.std.specs.Prelude.{◌≡◌, Bool, true, false, map}
use Rattle.std.specs.List.{AllByRecursion}
use Rattle.pin_nets.specs.declared.Rule.TheVariants.{Counted}
use Rattle.pin_nets.specs.Wired.{Net}
use Rattle.board_plan.specs.declared.plan.Plan.{Plan}
use Rattle.board_plan.specs.Planned.{Wiring}
use Rattle.board_plan.specs.View.{member as planned_member, wiring}
use Rattle.board_chain.specs.Ready.{IsReady}
use Rattle.play_direct.specs.Made.{IsSoundWiring, PowersUp}
use Rattle.board_faults.specs.declared.kinds.Way.{Way}
use Rattle.board_faults.specs.Judging.{HasMeaning, wiring_with}

-- a board whose faults can be judged: it powers up, and every net shows what its drivers say
pub record CanBeJudged (w : Wiring) : Type 0 where
  pub ready : IsReady w
  pub sound : IsSoundWiring w
  pub counted : AllByRecursion (λ (n : Net). n.rule ≡ Counted) w.nets

-- a bench keeps its devices
abbrev pub SameDevices : (before after : Plan) → Type 0
SameDevices before after = map planned_member after.devices.items ≡ map planned_member before.devices.items

-- A bench that is wired as the board where a fault shows in a way powers up; or that board has no meaning.
abbrev pub Wires : Wiring → Way → Plan → Bool → Type 0
Wires w way bench true = HasMeaning w way × (wiring bench ≡ wiring_with way w) × PowersUp bench
Wires w way bench false = HasMeaning w way → ⊥
