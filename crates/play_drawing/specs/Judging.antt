-- The wave of the messages of a turn, with what is told of the bits that it wants: each `R` asks for the next of them,
-- and TCK goes high behind it.
use Rattle.std.specs.Prelude.{◌≡◌, ◌⊎◌, ◌<◌, ℕ, ◌+◌, Bool, true, false, List, [], ◌∷◌, ◌++◌, drop, length, slice_get}
use Rattle.std.specs.Prelude.{Option, Some, None}
use Rattle.bitbang_protocol.specs.declared.Cycle.{Cycle}
use Rattle.bitbang_protocol.specs.declared.Message.{Message}
use Rattle.bitbang_protocol.specs.declared.Message.TheVariants.{Write, Ask}
use Rattle.scan_vectors.specs.declared.part.Part.{Part}
use Rattle.scan_vectors.specs.Vector.{VectorBit, wanted_bits}
use Rattle.board_model.specs.Chain.{tdi_before}
use Rattle.play_model.specs.declared.kind.Kind.{Kind}
use Rattle.play_model.specs.declared.kind.Kind.TheVariants.{Stops, PlaysOn}
use Rattle.play_drawing.specs.declared.notes.Note.{Note}
use Rattle.play_drawing.specs.Drawing.{after_mark, mark}
use Rattle.play_drawing.specs.Notes.{judged, kept, note_change}
use Rattle.play_drawing.specs.Pens.{Pen}

-- what answers an `R`
abbrev pub tdo_of : Pen → Bool
tdo_of p = tdi_before true p.board.chips

-- A player that stops wants nothing behind the bit that fails.
abbrev pub wanted_behind : Kind → Option (Part × ℕ) → List VectorBit → List VectorBit
wanted_behind Stops (Some failing) vs = []
wanted_behind Stops None vs = vs
wanted_behind PlaysOn failing vs = vs

-- The messages of a turn that wants these bits. Before a message stands what is told otherwise from then on, by the
-- variables from n on.
abbrev pub draw_judging : Kind → (n period : ℕ) → List Message → List VectorBit → Note → Pen → List ℕ
draw_judging kind n period [] vs note p = []
draw_judging kind n period (Ask ∷ m ∷ ms) (v ∷ vs) note p =
    let next = judged v (tdo_of p) in
    note_change p.marks.time n note next
    ++ (mark m p ++ draw_judging kind n period ms (wanted_behind kind next.failing vs) next (after_mark period m p))
draw_judging kind n period (m ∷ ms) vs note p =
    let next = kept m note in
    note_change p.marks.time n note next
    ++ (mark m p ++ draw_judging kind n period ms vs next (after_mark period m p))

-- ---- one cycle

-- a message, and before it what is told otherwise from then on
abbrev pub noted_mark : ℕ → (before after : Note) → Message → Pen → List ℕ
noted_mark n before after m p = note_change p.marks.time n before after ++ mark m p

-- the bit of a vector that is judged, if one is
abbrev pub asked_bit : List VectorBit → (asked : Option ℕ) → Option VectorBit
asked_bit bits None = None
asked_bit bits (Some i) = slice_get bits i

-- From a place of a vector on the next bit that is wanted is judged where a cycle reads TDO; none is where it does not,
-- or where none is wanted any more.
abbrev pub Asks : (read : Bool) → List VectorBit → (at : ℕ) → (asked : Option ℕ) → Type 0
Asks read bits at None = (read ≡ false) ⊎ (wanted_bits (drop at bits) ≡ [])
Asks read bits at (Some i) =
    (read ≡ true) × (i < length bits)
    × ((v : VectorBit) × (slice_get bits i ≡ Some v)
    × (wanted_bits (drop at bits) ≡ v ∷ wanted_bits (drop (i + 1) bits)))

-- what is told where TCK goes high: of the bit that is judged, if one is
abbrev pub high_note : Option VectorBit → (tdo : Bool) → Note → Note
high_note (Some v) tdo note = judged v tdo
high_note None tdo note = record note { wanted = None }

abbrev pub low_of : Cycle → Message
low_of c = Write false c.tms c.tdi

abbrev pub high_of : Cycle → Message
high_of c = Write true c.tms c.tdi

abbrev pub low_note : Note → Note
low_note note = record note { failing = None }

-- the pen where TCK is low
abbrev pub low_pen : (period : ℕ) → Cycle → Pen → Pen
low_pen period c p = after_mark period (low_of c) p

abbrev pub note_behind : (period : ℕ) → Cycle → Option VectorBit → Note → Pen → Note
note_behind period c asked note p = high_note asked (tdo_of (low_pen period c p)) (low_note note)

-- a cycle that asks for this bit, if for one
abbrev pub cycle_text : (n period : ℕ) → Cycle → Option VectorBit → Note → Pen → List ℕ
cycle_text n period c asked note p =
    noted_mark n note (low_note note) (low_of c) p
    ++ noted_mark n (low_note note) (note_behind period c asked note p) (high_of c) (low_pen period c p)
