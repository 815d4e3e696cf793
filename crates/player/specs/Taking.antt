-- Answers that are taken some at a time.
use Rattle.std.specs.Prelude.{◌≡◌, ◌≤◌, ◌+◌, ◌-◌, ◌++◌, ℕ, List, length, take, drop}
use Rattle.svf_programs.specs.Steps.{Program}
use Rattle.play_model.specs.Streams.{answers_taken, hear_bytes}
use Rattle.player.specs.Each.{hear_each}
use Rattle.player.specs.Findings.{IsKeptOf, Keeping, keeping}
use Rattle.player.specs.Progress.{IsProgressOf, state_of}
use Rattle.player.specs.declared.progress.Progress.{Progress}
use Rattle.player.specs.Window.{window}

-- where a player stands behind so many more answers, the last of them to a wanted bit before this one
abbrev pub behind_answers : Progress → ℕ → ℕ → Progress
behind_answers p judged n = record p { heard = p.heard + n; owed = p.owed - n; judged = judged }

-- Of these bytes the first were taken, so many: what a player takes of them all is those, and what it then takes of the
-- others.
pub record TakesFirst (program : Program) (p : Progress) (before : Keeping) (bytes : List ℕ) (next : Progress)
    (after : Keeping) (n : ℕ) : Type 0 where
  pub most : n ≤ length bytes
  pub stands : IsProgressOf program.steps next
  pub keeps : IsKeptOf (state_of program next) after
  pub at : next.at ≡ p.at
  pub taken : answers_taken window (state_of program p) bytes
      ≡ take n bytes ++ answers_taken window (state_of program next) (drop n bytes)
  pub state : keeping after (state_of program next) ≡ hear_bytes (take n bytes) (keeping before (state_of program p))
  pub each : hear_each bytes (keeping before (state_of program p))
      ≡ hear_each (drop n bytes) (keeping after (state_of program next))
