-- What is noted of each net tells what is noted of every pin does, of ways of faults of whole nets.
use Rattle.std.proofs.Common.{◌≡◌, ℕ, zero, suc, Bool, true, false, ◌&&◌, ◌||◌, List, [], ◌∷◌, length, drop, map, Option, Some, None, if◌then◌else◌, refl, sym, ap, ap₂, ◌∙◌}
use Rattle.std.specs.Prelude.{⊤}
use Rattle.pin_nets.specs.Wired.{Net}
use Rattle.play_model.specs.declared.ending.Ending.{Ending}
use Rattle.play_model.specs.declared.ending.Ending.TheVariants.{Fail}
use Rattle.board_faults.specs.declared.kinds.Way.{Way}
use Rattle.board_faults.specs.declared.kinds.Way.TheVariants as way
use Rattle.board_faults.specs.Together.{first_of, pull_differs, second_of, stuck_differs}
use Rattle.fault_events.specs.declared.differing.Pulls.{Pulls}
use Rattle.fault_events.specs.declared.notes.Note.{Note}
use Rattle.fault_events.specs.declared.notes.Spot.{Spot}
use Rattle.fault_events.specs.Captures.{Noted}
use Rattle.fault_events.specs.Endings.{all_of, ending_noted, first_note, notes_of, second_note}
use Rattle.fault_events.specs.Nets.{ending_by_nets, nets_noted, note_at, with_nets_noted}
use Rattle.fault_events.specs.Notes.{way_first, way_stays}
use Rattle.fault_events.specs.Pulls.{first_by, pulls_of, stays_by}

-- a way of a fault of whole nets: any but an open joint
abbrev pub IsOfNets : Way → Type 0
IsOfNets (way.Open net pin bit) = ⊥
IsOfNets its_way = ⊤

at-net : (nets : List Net) (k : ℕ) (notes : List Note) → note_at k (nets_noted nets notes) ≡ all_of (notes_of nets k notes)
at-net [] k notes = refl
at-net (n ∷ nets) zero notes = refl
at-net (n ∷ nets) (suc k) notes = at-net nets k (drop (length n.pins) notes)

no-second : (a b : Bool) → (a || (b && false)) ≡ (a || false)
no-second a true = refl
no-second a false = refl

-- at one capture
pub first_same : (nets : List Net) (its_way : Way) → IsOfNets its_way → (notes : List Note)
    → first_by its_way (pulls_of nets its_way) (note_at (first_of its_way) (nets_noted nets notes)) (note_at (second_of its_way) (nets_noted nets notes))
    ≡ way_first nets its_way (first_note nets its_way notes) (second_note nets its_way notes)
first_same nets (way.Open net pin bit) of notes = absurd of
first_same nets (way.Pull net) of notes =
    ap (λ (one : Note). way_first nets (way.Pull net) one (second_note nets (way.Pull net) notes)) (at-net nets net notes)
first_same nets (way.Stuck net bit) of notes =
    ap (λ (one : Note). way_first nets (way.Stuck net bit) one (second_note nets (way.Stuck net bit) notes)) (at-net nets net notes)
first_same nets (way.Short first second winner) of notes =
    ap₂ (λ (one two : Note). way_first nets (way.Short first second winner) one two) (at-net nets first notes) (at-net nets second notes)

pub stays_same : (nets : List Net) (its_way : Way) → IsOfNets its_way → (notes : List Note)
    → stays_by its_way (pulls_of nets its_way) (note_at (first_of its_way) (nets_noted nets notes)) (note_at (second_of its_way) (nets_noted nets notes))
    ≡ way_stays nets its_way (first_note nets its_way notes) (second_note nets its_way notes)
stays_same nets (way.Open net pin bit) of notes = absurd of
stays_same nets (way.Pull net) of notes =
    let one = note_at net (nets_noted nets notes) in
    no-second (one.stays && pull_differs (pulls_of nets (way.Pull net)).first true one.made) one.stays
    ∙ ap (λ (x : Note). way_stays nets (way.Pull net) x (second_note nets (way.Pull net) notes)) (at-net nets net notes)
stays_same nets (way.Stuck net bit) of notes =
    let one = note_at net (nets_noted nets notes) in
    no-second (one.stays && stuck_differs (pulls_of nets (way.Stuck net bit)).first bit true one.made) one.stays
    ∙ ap (λ (x : Note). way_stays nets (way.Stuck net bit) x (second_note nets (way.Stuck net bit) notes)) (at-net nets net notes)
stays_same nets (way.Short first second winner) of notes =
    ap₂ (λ (one two : Note). way_stays nets (way.Short first second winner) one two) (at-net nets first notes) (at-net nets second notes)

-- ---- the ending

abbrev told : ℕ → Option Spot → Option Ending → Option Ending
told c None rest = rest
told c (Some s) rest = Some (Fail c s.part s.bit)

one-by-nets : (its_way : Way) (p : Pulls) (first second : ℕ) (n : Noted) (ns : List Noted)
    → ending_by_nets its_way p first second (n ∷ ns)
    ≡ told n.command (first_by its_way p (note_at first n.notes) (note_at second n.notes))
    (if stays_by its_way p (note_at first n.notes) (note_at second n.notes) then None else ending_by_nets its_way p first second ns)
one-by-nets its_way p first second n ns = by (first_by its_way p (note_at first n.notes) (note_at second n.notes))
  where
    by : (o : Option Spot)
        → (elim o as (λ _. Option Ending) [
          | None ↦ if stays_by its_way p (note_at first n.notes) (note_at second n.notes) then None else ending_by_nets its_way p first second ns
          | Some s ↦ Some (Fail n.command s.part s.bit)
        ])
        ≡ told n.command o (if stays_by its_way p (note_at first n.notes) (note_at second n.notes) then None else ending_by_nets its_way p first second ns)
    by None = refl
    by (Some s) = refl

one-noted : (nets : List Net) (its_way : Way) (n : Noted) (ns : List Noted)
    → ending_noted nets its_way (n ∷ ns)
    ≡ told n.command (way_first nets its_way (first_note nets its_way n.notes) (second_note nets its_way n.notes))
    (if way_stays nets its_way (first_note nets its_way n.notes) (second_note nets its_way n.notes) then None else ending_noted nets its_way ns)
one-noted nets its_way n ns = by (way_first nets its_way (first_note nets its_way n.notes) (second_note nets its_way n.notes))
  where
    by : (o : Option Spot)
        → (elim o as (λ _. Option Ending) [
          | None ↦ if way_stays nets its_way (first_note nets its_way n.notes) (second_note nets its_way n.notes) then None else ending_noted nets its_way ns
          | Some s ↦ Some (Fail n.command s.part s.bit)
        ])
        ≡ told n.command o (if way_stays nets its_way (first_note nets its_way n.notes) (second_note nets its_way n.notes) then None else ending_noted nets its_way ns)
    by None = refl
    by (Some s) = refl

pub by_nets : (nets : List Net) (its_way : Way) → IsOfNets its_way → (ns : List Noted)
    → ending_by_nets its_way (pulls_of nets its_way) (first_of its_way) (second_of its_way) (map (with_nets_noted nets) ns) ≡ ending_noted nets its_way ns
by_nets nets its_way of [] = refl
by_nets nets its_way of (n ∷ ns) =
    one-by-nets its_way (pulls_of nets its_way) (first_of its_way) (second_of its_way) (with_nets_noted nets n) (map (with_nets_noted nets) ns)
    ∙ ap₂ (λ (o : Option Spot) (b : Bool). told n.command o (if b then None else ending_by_nets its_way (pulls_of nets its_way) (first_of its_way) (second_of its_way) (map (with_nets_noted nets) ns)))
    (first_same nets its_way of n.notes) (stays_same nets its_way of n.notes)
    ∙ ap (λ (r : Option Ending). told n.command (way_first nets its_way (first_note nets its_way n.notes) (second_note nets its_way n.notes))
    (if way_stays nets its_way (first_note nets its_way n.notes) (second_note nets its_way n.notes) then None else r)) (by_nets nets its_way of ns)
    ∙ sym (one-noted nets its_way n ns)
