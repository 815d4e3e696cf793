-- Some captures of a play, one after another, as a board's faults are judged by them.
use Rattle.std.specs.Prelude.{◌≡◌, ◌+◌, ℕ, List, [], ◌∷◌, length, map}
use Rattle.pin_nets.specs.Wired.{Net}
use Rattle.fault_events.specs.declared.ways.Block.{Block}
use Rattle.fault_events.specs.Captures.{Noted, seen}
use Rattle.fault_events.specs.Nets as of_nets
use Rattle.fault_events.specs.Nets.{with_nets_noted}

-- where the pins of each net begin among those of all, net after net, the first at a place
abbrev pub starts_from : (at : ℕ) → List Net → List ℕ
starts_from at [] = []
starts_from at (n ∷ ns) = at ∷ starts_from (at + length n.pins) ns

abbrev pub starts_of : List Net → List ℕ
starts_of nets = starts_from 0 nets

-- what is noted of every pin at these captures
abbrev pub noted_in : Block → List Noted
noted_in b = map seen b.pins.items

-- and of every net of these
pub record IsBlock (nets : List Net) (b : Block) : Type 0 where
  pub by_net : map of_nets.seen b.nets.items ≡ map (with_nets_noted nets) (noted_in b)
  pub starts : b.starts.items ≡ starts_of nets
