-- What the ways of a board's faults are played on.
use Rattle.std.specs.Prelude.{◌≡◌, map}
use Rattle.board_plan.specs.declared.plan.Plan.{Plan}
use Rattle.board_plan.specs.Planned.{Wiring}
use Rattle.board_plan.specs.View.{member as planned_member}

-- the board's devices, to be wired with each way
abbrev pub IsBench : Wiring → Plan → Type 0
IsBench w bench = map planned_member bench.devices.items ≡ w.members
