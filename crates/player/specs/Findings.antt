-- What is kept of the bits that differed.
use Rattle.std.specs.Prelude.{◌≡◌, ◌≤◌, length, min}
use Rattle.play_model.specs.declared.kind.Kind.{Kind}
use Rattle.play_model.specs.Streams.{Found, StreamState, count_kept, most_kept, stops, stops_for}

-- of which kind a player is, and what differed
pub record Keeping : Type 0 where
  pub kind : Kind
  pub found : Found

-- as many are listed as may be, and no more are counted than are to be
pub record IsCounted (kind : Kind) (found : Found) : Type 0 where
  pub listed : length found.list ≡ min (most_kept kind) found.total
  pub counted : count_kept kind found.total ≡ found.total

-- the player of this kind that keeps these failures and otherwise stands so
abbrev pub keeping : Keeping → StreamState → StreamState
keeping k s = record s { kind = k.kind; found = k.found }

-- It stops where that one does, and there are no more failures than answers.
pub record IsKeptOf (s : StreamState) (k : Keeping) : Type 0 where
  pub stops : stops_for k.kind k.found.list ≡ stops s
  pub few : k.found.total ≤ s.answered
  pub counted : length k.found.list ≤ k.found.total
