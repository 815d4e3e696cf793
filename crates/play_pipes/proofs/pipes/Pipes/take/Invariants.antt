use Rattle.std.proofs.Common.{◌≡◌, ◌-◌, ◌+◌, ◌≤◌, length}
use Rattle.play_model.specs.Events.{take_answers}
use Rattle.play_pipes.specs.Joining.{side}
use Rattle.play_pipes.proofs.pipes.Pipes.take.Given as goal

abbrev pub invariant-loop-count : goal.invariant-loop-count
invariant-loop-count l = record {
  within : l.count ≤ l.n;
  rest : take_answers side l.initial.self.down_room l.initial.self.up_room (l.n - l.count) l.self.world
      ≡ take_answers side l.initial.self.down_room l.initial.self.up_room l.n l.initial.self.world;
  count : l.count + length l.self.world.up ≡ length l.initial.self.world.up;
  down_room : l.self.down_room ≡ l.initial.self.down_room;
  up_room : l.self.up_room ≡ l.initial.self.up_room;
}

abbrev pub decreases-loop-count : goal.decreases-loop-count
decreases-loop-count l = l.n - l.count
