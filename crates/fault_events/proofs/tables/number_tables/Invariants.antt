use Rattle.std.proofs.Common.{◌≡◌, ◌++◌, drop, map}
use Rattle.board_plan.specs.View.{member as planned_member}
use Rattle.fault_events.specs.Tables.{tables_from, tables_of}
use Rattle.fault_events.proofs.tables.number_tables.Given as goal

abbrev pub invariant-loop-k : goal.invariant-loop-k
invariant-loop-k l =
    map (λ t. t.items) l.tables.items ++ tables_from l.pins l.k (map planned_member (drop l.k l.devices))
    ≡ tables_of l.pins (map planned_member l.devices)
