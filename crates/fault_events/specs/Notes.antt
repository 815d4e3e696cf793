-- What is noted of pins at a capture, and what that tells of a way in which a fault may show: it changes what two
-- groups of pins see at most, by what each of them drives together.
use Rattle.std.specs.Prelude.{◌≡◌, Bool, true, false, ◌&&◌, ◌||◌, ℕ, suc, List, [], ◌∷◌, length, map, take, drop}
use Rattle.std.specs.Prelude.{slice_index_or, nat_lt, Option, Some, None, option_map, is_some, if◌then◌else◌}
use Rattle.std.specs.List.{list_any, remove}
use Rattle.scan_vectors.specs.Vector.{VectorBit}
use Rattle.pin_nets.specs.declared.Pin.{Pin}
use Rattle.pin_nets.specs.Wired.{Net}
use Rattle.board_plan.specs.Planned.{Wiring}
use Rattle.board_model.specs.Cells.{Member}
use Rattle.board_model.specs.Nets.{pin_drive}
use Rattle.board_faults.specs.declared.kinds.Way.{Way}
use Rattle.board_faults.specs.declared.kinds.Way.TheVariants as way
use Rattle.board_faults.specs.declared.together.Driven.{Driven}
use Rattle.board_faults.specs.Faults.{IsWayOf, nowhere, with_way}
use Rattle.board_faults.specs.Sight.{MayHaveFaults}
use Rattle.board_faults.specs.Together.{driven, first_of, open_differs, pull_differs, short_differs, stuck_differs}
use Rattle.fault_events.specs.declared.notes.Note.{Note}
use Rattle.fault_events.specs.declared.notes.Spot.{Spot}
use Rattle.fault_events.specs.Events.{Event, caught_at, stays_other}
use Rattle.fault_events.specs.Sources.{Source, is_from, sources}

-- ---- of a group of pins

-- from bit k of the vector on
abbrev pub first_from : (Source → Bool) → (k : ℕ) → List VectorBit → List Source → Option Spot
first_from is k (v ∷ vs) (s ∷ ss) =
    if is_some v.wanted && is s then Some (record { index = k; part = v.part; bit = v.place })
    else first_from is (suc k) vs ss
first_from is k _ _ = None

-- of devices before a capture and the vector that is shifted behind it
abbrev pub note_in : List Member → List VectorBit → List Pin → Note
note_in ms v pins = record {
  made = driven (map (pin_drive ms) pins);
  first = first_from (is_from pins) 0 v (sources ms);
  stays = list_any (is_from pins) (drop (length v) (sources ms));
}

-- what is noted of some pins at a capture
abbrev pub note_of : Event → List Pin → Note
note_of e pins = note_in e.board.members e.vector pins

-- of each pin for itself
abbrev pub noted : List Pin → List Member → List VectorBit → List Note
noted pins ms v = map (λ p. note_in ms v (p ∷ [])) pins

-- ---- of a way

abbrev pub net_at : List Net → ℕ → Net
net_at nets k = slice_index_or nets k nowhere

-- the pins that may see another bit: those of a net, and of the other of a bridge; of an open joint its pin, and the
-- rest
abbrev pub first_pins : List Net → Way → List Pin
first_pins nets (way.Open net pin bit) = take 1 (drop pin (net_at nets net).pins)
first_pins nets its_way = (net_at nets (first_of its_way)).pins

abbrev pub second_pins : List Net → Way → List Pin
second_pins nets (way.Open net pin bit) = remove (net_at nets net).pins pin
second_pins nets (way.Short first second winner) = (net_at nets second).pins
second_pins nets its_way = []

-- whether the first see another bit, where both groups drive these together
abbrev pub first_differs : List Net → Way → (f g : Driven) → Bool
first_differs nets (way.Pull net) f g = pull_differs (net_at nets net).pull true f
first_differs nets (way.Stuck net bit) f g = stuck_differs (net_at nets net).pull bit true f
first_differs nets (way.Open net pin bit) f g = open_differs (net_at nets net).pull bit true false f g
first_differs nets (way.Short first second winner) f g =
    short_differs winner (net_at nets first).pull (net_at nets second).pull true false f g

-- whether the second do
abbrev pub second_differs : List Net → Way → (f g : Driven) → Bool
second_differs nets (way.Open net pin bit) f g = open_differs (net_at nets net).pull bit false true f g
second_differs nets (way.Short first second winner) f g =
    short_differs winner (net_at nets first).pull (net_at nets second).pull false true f g
second_differs nets its_way f g = false

-- of two wanted bits that which comes out first
abbrev pub earlier : Option Spot → Option Spot → Option Spot
earlier None o = o
earlier (Some a) None = Some a
earlier (Some a) (Some b) = if nat_lt b.index a.index then Some b else Some a

abbrev pub some_if : Bool → Option Spot → Option Spot
some_if b o = if b then o else None

-- the least wanted bit that is another
abbrev pub way_first : List Net → Way → (one two : Note) → Option Spot
way_first nets its_way one two =
    earlier (some_if (first_differs nets its_way one.made two.made) one.first)
    (some_if (second_differs nets its_way one.made two.made) two.first)

-- whether a bit that stays is another
abbrev pub way_stays : List Net → Way → (one two : Note) → Bool
way_stays nets its_way one two =
    (one.stays && first_differs nets its_way one.made two.made)
    || (two.stays && second_differs nets its_way one.made two.made)

-- the law: of a capture the notes of both groups tell which wanted bit is another, and whether one that stays is
abbrev pub NotesTellOfWays : Type 0
NotesTellOfWays = (w : Wiring) → MayHaveFaults w → (its_way : Way) → IsWayOf w.nets its_way
    → (e : Event) → e.board.nets ≡ w.nets
    → let one = note_of e (first_pins w.nets its_way) in
    let two = note_of e (second_pins w.nets its_way) in
    (caught_at (with_way its_way w.nets) e ≡ option_map (λ s. (s.part, s.bit)) (way_first w.nets its_way one two))
    × (stays_other (with_way its_way w.nets) e ≡ way_stays w.nets its_way one two)
