-- Bytes that a player has shown ahead.
use Rattle.std.specs.Prelude.{◌≡◌, ◌+◌}
use Rattle.play_model.specs.Streams.{StreamState}
use Rattle.player.specs.declared.shown.Shown.{Shown}
use Rattle.player.specs.Findings.{IsKeptOf, Keeping, keeping}
use Rattle.player.specs.Progress.{IsProgressOf, state_of}

-- what a player keeps of the bits that differed
abbrev pub kept_by : StreamState → Keeping
kept_by s = record { kind = s.kind; found = s.found }

-- Once so many bytes more are given out, this player stands as what was shown says.
pub record IsShown (s : StreamState) (shown : Shown) : Type 0 where
  pub stands : IsProgressOf s.program.steps shown.progress
  pub keeps : IsKeptOf (state_of s.program shown.progress) (kept_by s)
  pub state : keeping (kept_by s) (state_of s.program shown.progress) ≡ record s { given = s.given + shown.count }
