-- What the code keeps of a log, as what was read of it.
use Rattle.std.specs.Prelude.{List, ℕ, Option, Result, Ok, Err}
use Rattle.play_diagnosis.specs.declared.reading.LogFault.{LogFault}
use Rattle.play_diagnosis.specs.declared.reading.Reading as declared_reading
use Rattle.play_diagnosis.specs.declared.reading.Said.{Said}
use Rattle.play_diagnosis.specs.Reading.{Reading, Verdict, verdict_of}

abbrev pub reading_of : declared_reading.Reading → Reading
reading_of r = record {
  lines = r.lines;
  passes = r.passes;
  bits = r.bits.items;
  last = r.last;
  total = r.total;
}

-- what a call answers
abbrev pub answered : Result Said LogFault → Result Verdict LogFault
answered (Ok s) = Ok (verdict_of s)
answered (Err fault) = Err fault

abbrev pub reading_answered : Result declared_reading.Reading LogFault → Result Reading LogFault
reading_answered (Ok r) = Ok (reading_of r)
reading_answered (Err fault) = Err fault

-- what a call answers that leaves a reading so
abbrev pub left_so : {T : Type 0} → Result T LogFault → declared_reading.Reading → Result Reading LogFault
left_so (Ok done) r = Ok (reading_of r)
left_so (Err fault) r = Err fault
