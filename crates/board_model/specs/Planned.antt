-- The devices of a plan, powered up.
use Rattle.std.specs.Prelude.{List, map}
use Rattle.board_plan.specs.Planned as planned
use Rattle.board_model.specs.Cells.{Member, powered}

-- a planned device as it powers up
abbrev pub powered_up : planned.Member → Member
powered_up m = powered m.name m.device m.core m.follows m.extest_update

-- the devices of a plan
abbrev pub members_of : planned.Wiring → List Member
members_of w = map powered_up w.members
