use Rattle.std.proofs.Common.{◌≡◌, [], length, map, take, drop}
use Rattle.std.specs.List.{AllByRecursion}
use Rattle.board_plan.specs.View.{net}
use Rattle.board_plan.specs.Planned.{all_pins}
use Rattle.board_parts.specs.Twice.{IsWithin, Marks, is_some_twice}
use Rattle.board_parts.proofs.twice.mark_nets.Given as goal

-- the table has the pins so far, and what is left has its places there and is judged as the whole is
abbrev pub invariant-loop-net : goal.invariant-loop-net
invariant-loop-net l =
    let so_far = all_pins (map net (take l.net-index l.nets)) in
    let rest = all_pins (map net (drop l.net-index l.nets)) in
    record {
      long : length l.seen ≡ length l.initial.seen;
      inside : AllByRecursion (IsWithin l.ports (length l.initial.seen)) rest;
      judged : is_some_twice so_far rest ≡ is_some_twice [] (all_pins (map net l.nets));
      added : Marks l.ports so_far l.seen;
    }
