use Rattle.std.proofs.Common.{◌≡◌, [], map, take, drop}
use Rattle.board_plan.specs.View.{net}
use Rattle.board_plan.specs.Planned.{all_pins}
use Rattle.board_parts.specs.Twice.{is_some_twice}
use Rattle.board_parts.proofs.twice.is_found_twice.Given as goal

-- the pins so far are known, and what is left is judged as the whole is
abbrev pub invariant-loop-net : goal.invariant-loop-net
invariant-loop-net l =
    let so_far = all_pins (map net (take l.net-index l.nets)) in
    record {
      judged : is_some_twice so_far (all_pins (map net (drop l.net-index l.nets))) ≡ is_some_twice [] (all_pins (map net l.nets));
      added : l.used ≡ so_far;
    }
