use Rattle.std.proofs.Common.{◌≡◌, drop}
use Rattle.boundary.specs.Cells.{driver_from}
use Rattle.board_chips.proofs.driving.first_driver.Given as goal

abbrev pub invariant-loop-k : goal.invariant-loop-k
invariant-loop-k l = driver_from l.port 0 l.list ≡ driver_from l.port l.k (drop l.k l.list)
