-- The bits of a capture marked at the pins that they are taken from, one after another.
use Rattle.std.specs.Prelude.{true, false, ℕ, suc, List, [], ◌∷◌, slice_get, slice_index_or, slice_set, Option}
use Rattle.std.specs.Prelude.{Some, None, is_none, is_some, ◌&&◌, if◌then◌else◌}
use Rattle.scan_vectors.specs.Vector.{VectorBit}
use Rattle.fault_events.specs.declared.notes.Note.{Note}
use Rattle.fault_events.specs.declared.notes.Spot.{Spot}

abbrev pub nothing_noted : Note
nothing_noted = record { made = record { zero = false; one = false; weak = false }; first = None; stays = false }

-- a bit of a vector by its number
abbrev pub spot_at : (k : ℕ) → VectorBit → Spot
spot_at k b = record { index = k; part = b.part; bit = b.place }

-- bit k of a capture is taken from a pin: one that the vector pushes out, or one that stays
abbrev pub mark_bit : (k : ℕ) → Option VectorBit → Note → Note
mark_bit k None n = record n { stays = true }
mark_bit k (Some b) n =
    if is_some b.wanted && is_none n.first
    then record n { first = Some (spot_at k b) } else n

abbrev pub mark_number : List VectorBit → (k : ℕ) → Option ℕ → List Note → List Note
mark_number v k None notes = notes
mark_number v k (Some n) notes =
    slice_set notes n (mark_bit k (slice_get v k) (slice_index_or notes n nothing_noted))

-- all bits from bit k on, by the numbers of their pins
abbrev pub marked : List VectorBit → (k : ℕ) → List (Option ℕ) → List Note → List Note
marked v k [] notes = notes
marked v k (n ∷ ns) notes = marked v (suc k) ns (mark_number v k n notes)
