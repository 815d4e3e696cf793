use Rattle.board_loops.specs.Depending.{wired}
use Rattle.board_loops.proofs.DependingLaws.{IsGathered}
use Rattle.board_loops.proofs.depending.dependencies.Given as goal

abbrev pub invariant-loop-place : goal.invariant-loop-place
invariant-loop-place l = IsGathered (wired l.nets l.devices) l.place l.all.items l.first
