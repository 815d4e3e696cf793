-- The value that a program wants of a bit.
use Rattle.std.specs.Prelude.{Bool, false, ◌==◌, List, [], ◌∷◌, if◌then◌else◌}
use Rattle.scan_vectors.specs.declared.failures.Mismatch.{Mismatch}
use Rattle.svf_programs.specs.Steps.{Step, Scan, Numbered}
use Rattle.board_reasons.specs.Reasons.{place_in, wanted_at}

-- what a step wants of a bit of its vector
abbrev pub wanted_in : Step → Mismatch → Bool
wanted_in (Scan column v end) f = wanted_at v (place_in v f.part f.bit)
wanted_in _ f = false

-- what the step of the bit's statement wants of it
abbrev pub wanted_of : List Numbered → Mismatch → Bool
wanted_of [] f = false
wanted_of (s ∷ ss) f = if s.number == f.command then wanted_in s.what f else wanted_of ss f
