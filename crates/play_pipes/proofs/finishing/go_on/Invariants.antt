use Rattle.std.proofs.Common.{◌≡◌, ◌-◌, List}
use Rattle.play_model.specs.Events.{Event, run}
use Rattle.play_model.specs.Fair.{HasNoLose}
use Rattle.play_pipes.specs.Joining.{side}
use Rattle.play_pipes.proofs.RoundsEnd.{most, sum_of}
use Rattle.play_pipes.proofs.finishing.go_on.Given as goal

abbrev pub invariant-loop-pipes : goal.invariant-loop-pipes
invariant-loop-pipes l =
    (es : List Event) × HasNoLose es
    × (l.pipes ≡ record l.initial.pipes { world = run side l.initial.pipes.down_room l.initial.pipes.up_room es l.initial.pipes.world })

abbrev pub decreases-loop-pipes : goal.decreases-loop-pipes
decreases-loop-pipes l = most l.pipes.world.player - sum_of l.pipes.world
