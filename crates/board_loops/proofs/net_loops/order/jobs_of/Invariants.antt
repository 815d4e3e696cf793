use Rattle.std.proofs.Common.{◌≡◌, All, map}
use Rattle.std.specs.List.{range_with_len}
use Rattle.board_loops.specs.Jobs.{IsJobOf, place_of}
use Rattle.board_loops.proofs.net_loops.order.jobs_of.Given as goal

abbrev pub invariant-loop-place : goal.invariant-loop-place
invariant-loop-place l = record {
  places : map place_of l.jobs.items ≡ range_with_len 0 l.place;
  jobs : All (IsJobOf l.strings l.numbers) l.jobs.items;
}
