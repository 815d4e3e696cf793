use Rattle.std.proofs.Common.{◌≡◌, ◌++◌, take}
use Rattle.std.specs.Prelude.{flat_map}
use Rattle.play_diagnosis.specs.Diagnosis.{fitting_words}
use Rattle.play_diagnosis.proofs.diagnosing.put_fitting.Given as goal

-- those before this one are told
abbrev pub invariant-loop-tried : goal.invariant-loop-tried
invariant-loop-tried l = l.text.items ≡ l.initial.text.items ++ flat_map fitting_words (take l.tried-index l.ways)
