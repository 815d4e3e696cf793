use Rattle.std.proofs.Common.{◌≡◌, ◌-◌, ◌+◌, ◌≤◌, length}
use Rattle.play_model.specs.Events.{served}
use Rattle.play_pipes.proofs.pipes.Pipes.serve.Given as goal

abbrev pub invariant-loop-count : goal.invariant-loop-count
invariant-loop-count l = record {
  within : l.count ≤ l.n;
  rest : served l.initial.self.up_room (l.n - l.count) l.self.world.down l.self.world
      ≡ served l.initial.self.up_room l.n l.initial.self.world.down l.initial.self.world;
  count : l.count + length l.self.world.down ≡ length l.initial.self.world.down;
  down_room : l.self.down_room ≡ l.initial.self.down_room;
  up_room : l.self.up_room ≡ l.initial.self.up_room;
}

abbrev pub decreases-loop-count : goal.decreases-loop-count
decreases-loop-count l = l.n - l.count
