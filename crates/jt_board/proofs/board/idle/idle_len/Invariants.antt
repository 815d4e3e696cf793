use Rattle.std.proofs.Common.{◌≡◌, ◌+◌, ◌-◌, ◌≤◌, length, drop}
use Rattle.std.specs.List.{prefix_len}
use Rattle.jt_board.specs.Idling.{is_idle_byte}
use Rattle.jt_board.proofs.board.idle.idle_len.Given as goal

-- each byte before the present one writes TMS low
abbrev pub invariant-loop-at : goal.invariant-loop-at
invariant-loop-at l = record {
  within : l.at ≤ length l.bytes;
  passed : prefix_len is_idle_byte l.bytes ≡ l.at + prefix_len is_idle_byte (drop l.at l.bytes);
}

abbrev pub decreases-loop-at : goal.decreases-loop-at
decreases-loop-at l = length l.bytes - l.at
