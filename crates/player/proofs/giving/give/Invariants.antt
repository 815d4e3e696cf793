use Rattle.std.proofs.Common.{◌≡◌, ◌+◌, ◌-◌, ◌≤◌, ◌++◌, length, take, drop}
use Rattle.bitbang.specs.Left.{left, whole}
use Rattle.player.specs.PlaceInPlay.{reads, up_to_reads}
use Rattle.player.proofs.giving.give.Given as goal

-- what was given out is the front of what the window lets through, and it lets the rest through
abbrev pub invariant-loop-count : goal.invariant-loop-count
invariant-loop-count l = record {
  room : l.count ≤ length l.initial.buffer;
  some : l.count ≤ length (left l.initial.bytes);
  through : l.count ≤ length (up_to_reads (left l.initial.bytes) (256 - l.initial.owed));
  ahead : drop l.count (up_to_reads (left l.initial.bytes) (256 - l.initial.owed)) ≡ up_to_reads (left l.bytes) (256 - l.owed);
  filled : l.buffer ≡ take l.count (left l.initial.bytes) ++ drop l.count l.initial.buffer;
  rest : left l.bytes ≡ drop l.count (left l.initial.bytes);
  whole : whole l.bytes ≡ whole l.initial.bytes;
  owed : l.owed ≡ l.initial.owed + reads (take l.count (left l.initial.bytes));
  allowed : l.owed ≤ 256;
}

abbrev pub decreases-loop-count : goal.decreases-loop-count
decreases-loop-count l = length l.initial.buffer - l.count
