use Rattle.std.proofs.Common.{◌≡◌, ◌++◌, map, drop}
use Rattle.board_model.specs.Chain.{members}
use Rattle.fault_events.specs.Numbers.{number_of, numbers}
use Rattle.fault_events.specs.Sources.{sources_from}
use Rattle.fault_events.proofs.numbers.put_numbers.Given as goal

abbrev pub invariant-loop-device : goal.invariant-loop-device
invariant-loop-device l =
    let tables = map (λ t. t.items) l.tables in
    l.list.items ++ map (number_of tables) (sources_from l.device (members (drop l.device l.chain.chips)))
    ≡ l.fn.list.items ++ numbers tables (members l.chain.chips)
