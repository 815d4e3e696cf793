use Rattle.std.proofs.Common.{◌≡◌}
use Rattle.std.specs.List.{list_any}
use Rattle.svf_programs.specs.Left.{left}
use Rattle.svf_programs.specs.Sizes.{program_of}
use Rattle.play_diagnosis.specs.Reading.{has_bit, is_of}
use Rattle.play_diagnosis.proofs.reading.has_bit.Given as goal

-- none of the steps so far scans it
abbrev pub invariant-loop-step : goal.invariant-loop-step
invariant-loop-step l = has_bit (program_of l.program) l.bit ≡ list_any (is_of l.bit) (left l.step-iterator)
