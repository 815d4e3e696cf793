use Rattle.std.proofs.Common.{◌≡◌, ◌+◌, ◌-◌, ◌≤◌, ◌++◌, length, take, drop, None}
use Rattle.svf_programs.specs.Sizes.{program_of}
use Rattle.play_model.specs.Streams.{bytes_to_send}
use Rattle.player.specs.Progress.{IsProgressOf, state_of}
use Rattle.player.proofs.pieces.fill.Given as goal

abbrev pub invariant-loop-count : goal.invariant-loop-count
invariant-loop-count l = record {
  stands : IsProgressOf l.program.steps l.p;
  good : l.p.bad ≡ None;
  state : state_of (program_of l.program) l.p
      ≡ record (state_of (program_of l.program) l.initial.p) { given = (state_of (program_of l.program) l.initial.p).given + l.count };
  room : l.count ≤ length l.initial.buffer;
  some : l.count ≤ length (bytes_to_send 256 (state_of (program_of l.program) l.initial.p));
  filled : l.buffer ≡ take l.count (bytes_to_send 256 (state_of (program_of l.program) l.initial.p)) ++ drop l.count l.initial.buffer;
}

abbrev pub decreases-loop-count : goal.decreases-loop-count
decreases-loop-count l = length l.initial.buffer - l.count
