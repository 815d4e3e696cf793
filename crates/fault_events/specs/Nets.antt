-- What is noted of each net at a capture, and how a program ends by that where a fault of whole nets shows in a way.
use Rattle.std.specs.Prelude.{ℕ, List, [], ◌∷◌, drop, length, map, slice_index_or, take, Option, Some, None}
use Rattle.std.specs.Prelude.{if◌then◌else◌}
use Rattle.pin_nets.specs.Wired.{Net}
use Rattle.play_model.specs.declared.ending.Ending.{Ending}
use Rattle.play_model.specs.declared.ending.Ending.TheVariants.{Pass, Fail}
use Rattle.board_faults.specs.declared.kinds.Way.{Way}
use Rattle.fault_events.specs.declared.differing.Pulls.{Pulls}
use Rattle.fault_events.specs.declared.nets.NetCapture.{NetCapture}
use Rattle.fault_events.specs.declared.notes.Note.{Note}
use Rattle.fault_events.specs.Captures.{Noted}
use Rattle.fault_events.specs.Endings.{all_of}
use Rattle.fault_events.specs.Marks.{nothing_noted}
use Rattle.fault_events.specs.Pulls.{first_by, stays_by}

-- of each net its pins together, by the notes of all pins, net after net
abbrev pub nets_noted : List Net → List Note → List Note
nets_noted [] notes = []
nets_noted (n ∷ ns) notes = all_of (take (length n.pins) notes) ∷ nets_noted ns (drop (length n.pins) notes)

abbrev pub with_nets_noted : List Net → Noted → Noted
with_nets_noted nets n = record { command = n.command; notes = nets_noted nets n.notes }

abbrev pub seen : NetCapture → Noted
seen c = record { command = c.command; notes = c.nets.items }

abbrev pub note_at : ℕ → List Note → Note
note_at k notes = slice_index_or notes k nothing_noted

-- how a program ends, by the notes of two nets
abbrev pub ending_by_nets : Way → Pulls → (first second : ℕ) → List Noted → Option Ending
ending_by_nets its_way p first second [] = Some Pass
ending_by_nets its_way p first second (n ∷ ns) =
    let one = note_at first n.notes in
    let two = note_at second n.notes in
    let rest = if stays_by its_way p one two then None else ending_by_nets its_way p first second ns in
    elim (first_by its_way p one two) [ None ↦ rest | Some s ↦ Some (Fail n.command s.part s.bit) ]
