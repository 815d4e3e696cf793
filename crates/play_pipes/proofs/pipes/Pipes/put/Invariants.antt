use Rattle.std.proofs.Common.{◌≡◌, ◌-◌, ◌+◌, ◌≤◌, length}
use Rattle.play_model.specs.Events.{put_bytes}
use Rattle.play_pipes.specs.Joining.{side}
use Rattle.play_pipes.proofs.pipes.Pipes.put.Given as goal

abbrev pub invariant-loop-count : goal.invariant-loop-count
invariant-loop-count l = record {
  within : l.count ≤ l.n;
  rest : put_bytes side l.initial.self.down_room l.initial.self.up_room (l.n - l.count) l.self.world
      ≡ put_bytes side l.initial.self.down_room l.initial.self.up_room l.n l.initial.self.world;
  count : length l.initial.self.world.down + l.count ≡ length l.self.world.down;
  down_room : l.self.down_room ≡ l.initial.self.down_room;
  up_room : l.self.up_room ≡ l.initial.self.up_room;
}

abbrev pub decreases-loop-count : goal.decreases-loop-count
decreases-loop-count l = l.n - l.count
