use Rattle.std.proofs.Common.{◌≡◌, ◌<◌, ◌≤◌, ℕ, length, map, slice_get, Some}
use Rattle.fault_events.specs.Captures.{Noted}
use Rattle.fault_events.specs.Marks.{nothing_noted}
use Rattle.fault_events.specs.Nets.{note_at, seen}
use Rattle.fault_serving.specs.Planes.{IsNoteAt}
use Rattle.fault_serving.proofs.planing.words_of.Given as goal

-- what is noted at the captures so far, and nothing behind them
abbrev pub invariant-loop-k : goal.invariant-loop-k
invariant-loop-k l = record {
  noted : (j : ℕ) (n : Noted) → j < l.k → slice_get (map seen l.captures) j ≡ Some n → IsNoteAt j (note_at l.net n.notes) l.words;
  few : l.k ≤ length l.captures;
  free : (j : ℕ) → l.k ≤ j → j < 64 → IsNoteAt j nothing_noted l.words;
}
