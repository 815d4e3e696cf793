use Rattle.std.proofs.Common.{◌≡◌, ◌≤◌, ◌+◌, length, option_map}
use Rattle.svf_programs.specs.Sizes.{program_of}
use Rattle.play_diagnosis.specs.Pieces.{pieces}
use Rattle.play_diagnosis.specs.Reading as spec
use Rattle.play_diagnosis.specs.Readings.{reading_of}
use Rattle.play_diagnosis.proofs.Left.{size_left}
use Rattle.play_diagnosis.proofs.reading.read_lines.Given as goal

-- what was read so far, and the lines that are left
abbrev pub invariant-loop-rest : goal.invariant-loop-rest
invariant-loop-rest l = record {
  read : spec.with_lines (program_of l.program) spec.nothing_read (spec.lines l.log)
      ≡ spec.with_lines (program_of l.program) (reading_of l.reading) (pieces 10 (option_map (λ r. r.now) l.rest));
  few : l.reading.lines + size_left (option_map (λ r. r.now) l.rest) ≤ length l.log + 1;
}

abbrev pub decreases-loop-rest : goal.decreases-loop-rest
decreases-loop-rest l = size_left (option_map (λ r. r.now) l.rest)
