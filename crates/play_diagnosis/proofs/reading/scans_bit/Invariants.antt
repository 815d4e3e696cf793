use Rattle.std.proofs.Common.{◌≡◌, drop}
use Rattle.std.specs.List.{list_any}
use Rattle.scan_vectors.specs.Held.{bits}
use Rattle.play_diagnosis.specs.Reading.{is_bit_of}
use Rattle.play_diagnosis.proofs.reading.scans_bit.Given as goal

-- none so far is this one
abbrev pub invariant-loop-i : goal.invariant-loop-i
invariant-loop-i l = list_any (is_bit_of l.bit) (bits l.vector) ≡ list_any (is_bit_of l.bit) (drop l.i (bits l.vector))
