-- What stays of a device whatever it is told: all but its registers.
use Rattle.std.specs.Prelude.{List, map}
use Rattle.std.specs.List.{AllByRecursion}
use Rattle.chip_instructions.specs.Fitting.{IsFormed}
use Rattle.board_plan.specs.Planned as planned
use Rattle.board_model.specs.Cells.{Member}

abbrev pub planned_part : Member → planned.Member
planned_part m =
    record { name = m.name; device = m.device; core = m.core; follows = m.follows; extest_update = m.extest_update }

abbrev pub planned_parts : List Member → List planned.Member
planned_parts ms = map planned_part ms

-- each list that a register takes has that register's length
abbrev pub AllPlannedFormed : List planned.Member → Type 0
AllPlannedFormed ps = AllByRecursion (λ (m : planned.Member). IsFormed m.device) ps
