use Rattle.std.proofs.Common.{◌≡◌, ◌++◌, take}
use Rattle.std.specs.Prelude.{flat_map}
use Rattle.play_coverage.specs.Lines.{missed_words}
use Rattle.play_coverage.proofs.ways.put_passed.Given as goal

-- those before this one are told
abbrev pub invariant-loop-judged : goal.invariant-loop-judged
invariant-loop-judged l = l.text.items ≡ l.initial.text.items ++ flat_map missed_words (take l.judged-index l.ways)
