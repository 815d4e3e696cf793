-- How a program ends where a fault shows in a way, by what is noted of every pin at its captures.
use Rattle.std.specs.Prelude.{◌≡◌, ◌||◌, ℕ, zero, suc, List, [], ◌∷◌, ◌++◌, length, map, take, drop, Option, Some, None}
use Rattle.std.specs.Prelude.{if◌then◌else◌}
use Rattle.std.specs.List.{remove}
use Rattle.svf_programs.specs.Legal.{IsLegalProgram}
use Rattle.svf_programs.specs.Steps.{Program}
use Rattle.pin_nets.specs.Wired.{Net}
use Rattle.board_plan.specs.Planned.{Wiring}
use Rattle.board_model.specs.Nets.{strings}
use Rattle.board_model.specs.Planned.{members_of}
use Rattle.play_model.specs.declared.ending.Ending.{Ending}
use Rattle.play_model.specs.declared.ending.Ending.TheVariants.{Pass, Fail, Lost, BadAnswer}
use Rattle.play_model.specs.Play.{play}
use Rattle.board_faults.specs.declared.kinds.Way.{Way}
use Rattle.board_faults.specs.declared.kinds.Way.TheVariants as way
use Rattle.board_faults.specs.Faults.{IsWayOf}
use Rattle.board_faults.specs.Judging.{ending_with}
use Rattle.board_faults.specs.Made.{IsSoundWiring, board_of}
use Rattle.board_faults.specs.Sight.{MayHaveFaults}
use Rattle.board_faults.specs.Together.{first_of, together}
use Rattle.fault_events.specs.declared.notes.Note.{Note}
use Rattle.fault_events.specs.Captures.{Noted, captures}
use Rattle.fault_events.specs.Marks.{nothing_noted}
use Rattle.fault_events.specs.Notes.{earlier, way_first, way_stays}

-- ---- pins together

-- what is noted of two groups of pins together
abbrev pub both : Note → Note → Note
both a b =
    record { made = together a.made b.made; first = earlier a.first b.first; stays = a.stays || b.stays }

abbrev pub all_of : List Note → Note
all_of [] = nothing_noted
all_of (n ∷ ns) = both n (all_of ns)

-- the same with others behind them
abbrev pub all_with : List Note → Note → Note
all_with [] rest = rest
all_with (n ∷ ns) rest = both n (all_with ns rest)

-- of the notes of all pins, net after net, those of a net's
abbrev pub notes_of : List Net → (net : ℕ) → List Note → List Note
notes_of [] net notes = []
notes_of (n ∷ ns) zero notes = take (length n.pins) notes
notes_of (n ∷ ns) (suc net) notes = notes_of ns net (drop (length n.pins) notes)

-- of the pins that may see another bit where a fault shows in a way
abbrev pub first_note : List Net → Way → List Note → Note
first_note nets (way.Open net pin bit) notes = all_of (take 1 (drop pin (notes_of nets net notes)))
first_note nets its_way notes = all_of (notes_of nets (first_of its_way) notes)

abbrev pub second_note : List Net → Way → List Note → Note
second_note nets (way.Open net pin bit) notes = all_of (remove (notes_of nets net notes) pin)
second_note nets (way.Short first second winner) notes = all_of (notes_of nets second notes)
second_note nets its_way notes = nothing_noted

-- ---- the ending

-- How a program that passes ends, by what is noted at its captures: it fails at the first of them at which a wanted bit
-- is another, at the least such bit. None where a bit that stays is another before.
abbrev pub ending_noted : List Net → Way → List Noted → Option Ending
ending_noted nets its_way [] = Some Pass
ending_noted nets its_way (n ∷ ns) =
    let one = first_note nets its_way n.notes in
    let two = second_note nets its_way n.notes in
    let rest = if way_stays nets its_way one two then None else ending_noted nets its_way ns in
    elim (way_first nets its_way one two) [ None ↦ rest | Some s ↦ Some (Fail n.command s.part s.bit) ]

-- how it ends by some captures and then by more: as the first tell, unless they tell that it passes
abbrev pub and_then : Option Ending → Option Ending → Option Ending
and_then None rest = None
and_then (Some Pass) rest = rest
and_then (Some (Fail command part bit)) rest = Some (Fail command part bit)
and_then (Some (Lost command)) rest = Some (Lost command)
and_then (Some (BadAnswer command byte)) rest = Some (BadAnswer command byte)

-- the law: captures may be judged block by block
abbrev pub CapturesMayBeCut : Type 0
CapturesMayBeCut = (nets : List Net) (its_way : Way) (first rest : List Noted)
    → ending_noted nets its_way (first ++ rest)
    ≡ and_then (ending_noted nets its_way first) (ending_noted nets its_way rest)

-- the law: of a program that passes on a sound board without strings, what is noted of every pin at the captures of one
-- play tells how it ends on the board where a fault shows in a way, wherever it tells
abbrev pub NotesTellOfFaults : Type 0
NotesTellOfFaults = (program : Program) → IsLegalProgram program.steps → (w : Wiring) → IsSoundWiring w
    → MayHaveFaults w → strings (members_of w) ≡ 0 → (play program (board_of w)).ending ≡ Pass
    → (its_way : Way) → IsWayOf w.nets its_way → (ending : Ending)
    → ending_noted w.nets its_way (captures program w) ≡ Some ending
    → ending_with program w its_way ≡ ending
