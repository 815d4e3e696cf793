use Rattle.std.proofs.Common.{◌≡◌, ◌≤◌, ◌++◌, ◌+◌, ℕ, List, Option, Some, None, length, map, option_map}
use Rattle.play_diagnosis.specs.LogLines.{words}
use Rattle.play_diagnosis.specs.Pieces.{pieces}
use Rattle.play_diagnosis.proofs.Left.{size_left}
use Rattle.play_diagnosis.proofs.lines.first_words.Given as goal

-- the words so far, and those that are left
abbrev pub invariant-loop-rest : goal.invariant-loop-rest
invariant-loop-rest l = record {
  cut : words l.line ≡ map (λ w. w.now) l.words.items ++ pieces 32 (option_map (λ r. r.now) l.rest);
  few : length l.words.items ≤ 7;
}

abbrev pub decreases-loop-rest : goal.decreases-loop-rest
decreases-loop-rest l = size_left (option_map (λ r. r.now) l.rest)
