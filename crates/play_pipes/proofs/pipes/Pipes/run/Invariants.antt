use Rattle.std.proofs.Common.{◌≡◌, ◌+◌, ◌≤◌, map, drop}
use Rattle.play_model.specs.Events.{moving, run}
use Rattle.play_pipes.specs.Joining.{event_of, side}
use Rattle.play_pipes.proofs.pipes.Pipes.run.Given as goal

abbrev pub invariant-loop-event : goal.invariant-loop-event
invariant-loop-event l = record {
  most : l.moved ≤ l.event-index;
  rest : run side l.initial.self.down_room l.initial.self.up_room (map event_of (drop l.event-index l.events)) l.self.world
      ≡ run side l.initial.self.down_room l.initial.self.up_room (map event_of l.events) l.initial.self.world;
  count : l.moved + moving side l.initial.self.down_room l.initial.self.up_room (map event_of (drop l.event-index l.events)) l.self.world
      ≡ moving side l.initial.self.down_room l.initial.self.up_room (map event_of l.events) l.initial.self.world;
  down_room : l.self.down_room ≡ l.initial.self.down_room;
  up_room : l.self.up_room ≡ l.initial.self.up_room;
}
