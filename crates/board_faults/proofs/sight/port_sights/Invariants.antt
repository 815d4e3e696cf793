use Rattle.std.proofs.Common.{◌≡◌, map}
use Rattle.std.specs.List.{range_with_len}
use Rattle.board_plan.specs.View.{member as planned_member}
use Rattle.board_faults.specs.Together.{port_sight}
use Rattle.board_faults.proofs.sight.port_sights.Given as goal

abbrev pub invariant-loop-port : goal.invariant-loop-port
invariant-loop-port l = l.sights.items ≡ map (port_sight (planned_member l.device)) (range_with_len 0 l.port)
