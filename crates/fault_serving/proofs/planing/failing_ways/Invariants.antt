use Rattle.std.proofs.Common.{List, drop, map}
use Rattle.board_plan.specs.View.{net as planned_net}
use Rattle.fault_events.specs.Captures.{Noted}
use Rattle.fault_serving.specs.Planes.{AreBlocksOf}
use Rattle.fault_serving.proofs.SiftingLaws.{IsSoFar}
use Rattle.fault_serving.proofs.planing.failing_ways.Given as goal

-- what the blocks so far tell
abbrev pub invariant-loop-words : goal.invariant-loop-words
invariant-loop-words l =
    let nets = map planned_net l.nets in
    (ns : List Noted) → AreBlocksOf nets ns (map (λ b. b.items) l.blocks) → IsSoFar nets ns l.first l.second l.failing (drop l.words-index l.blocks)
