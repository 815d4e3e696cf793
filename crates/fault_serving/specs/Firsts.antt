-- What the captures of one play tell of a play that goes on after what fails: the first bit that fails at each.
use Rattle.std.specs.Prelude.{◌≡◌, Bool, true, false, ◌&&◌, ℕ, ◌==◌, List, [], ◌∷◌, map, Option, Some, None}
use Rattle.std.specs.Prelude.{if◌then◌else◌}
use Rattle.std.specs.List.{list_any}
use Rattle.scan_vectors.specs.declared.failures.Mismatch.{Mismatch}
use Rattle.scan_vectors.specs.declared.part.Part.{Part}
use Rattle.scan_vectors.specs.declared.part.Part.TheVariants.{Header, Data, Trailer}
use Rattle.svf_programs.specs.Legal.{IsLegalProgram}
use Rattle.svf_programs.specs.Steps.{Program}
use Rattle.pin_nets.specs.Wired.{Net}
use Rattle.board_plan.specs.Planned.{Wiring}
use Rattle.board_model.specs.Following.{IsAmong}
use Rattle.board_model.specs.Nets.{strings}
use Rattle.board_model.specs.Planned.{members_of}
use Rattle.play_model.specs.declared.ending.Ending.TheVariants.{Pass}
use Rattle.play_model.specs.Play.{play}
use Rattle.play_direct.specs.ToTheEnd.{all_failures}
use Rattle.board_faults.specs.declared.kinds.Way.{Way}
use Rattle.board_faults.specs.declared.kinds.Way.TheVariants as way
use Rattle.board_faults.specs.declared.kinds.Winner.{Winner}
use Rattle.board_faults.specs.Faults.{IsWayOf}
use Rattle.board_faults.specs.Judging.{wiring_with}
use Rattle.board_faults.specs.Made.{IsSoundWiring, board_of}
use Rattle.board_faults.specs.Sight.{MayHaveFaults}
use Rattle.fault_events.specs.declared.differing.Pulls.{Pulls}
use Rattle.fault_events.specs.declared.notes.Spot.{Spot}
use Rattle.fault_events.specs.Captures.{Noted, captures}
use Rattle.fault_events.specs.Endings.{first_note, second_note}
use Rattle.fault_events.specs.Nets.{note_at, with_nets_noted}
use Rattle.fault_events.specs.Notes.{way_first, way_stays}
use Rattle.fault_events.specs.Pulls.{first_by, pulls_of, stays_by}

-- where a fault shows in a way, by what is noted of every pin
abbrev pub firsts_noted : List Net → Way → List Noted → List Mismatch
firsts_noted nets its_way [] = []
firsts_noted nets its_way (n ∷ ns) =
    let one = first_note nets its_way n.notes in
    let two = second_note nets its_way n.notes in
    let rest = if way_stays nets its_way one two then [] else firsts_noted nets its_way ns in
    elim (way_first nets its_way one two) [
      | None ↦ rest
      | Some s ↦ record { command = n.command; part = s.part; bit = s.bit } ∷ rest
    ]

-- the same by the notes of two nets
abbrev pub firsts_by_nets : Way → Pulls → (first second : ℕ) → List Noted → List Mismatch
firsts_by_nets its_way p first second [] = []
firsts_by_nets its_way p first second (n ∷ ns) =
    let one = note_at first n.notes in
    let two = note_at second n.notes in
    let rest = if stays_by its_way p one two then [] else firsts_by_nets its_way p first second ns in
    elim (first_by its_way p one two) [
      | None ↦ rest
      | Some s ↦ record { command = n.command; part = s.part; bit = s.bit } ∷ rest
    ]

-- ---- whether these are among some bits

abbrev pub is_part : Part → Part → Bool
is_part Header Header = true
is_part Data Data = true
is_part Trailer Trailer = true
is_part _ _ = false

abbrev pub is_same_bit : Mismatch → Mismatch → Bool
is_same_bit m n = m.command == n.command && (is_part m.part n.part && m.bit == n.bit)

abbrev pub is_among : List Mismatch → Mismatch → Bool
is_among bits m = list_any (is_same_bit m) bits

-- a spot of a statement's vector, if there is one
abbrev pub is_listed : List Mismatch → (command : ℕ) → Option Spot → Bool
is_listed bits command None = true
is_listed bits command (Some s) = is_among bits (record { command = command; part = s.part; bit = s.bit })

-- all of the bits that fail first, by the notes of two nets
abbrev pub lists_firsts : List Mismatch → Way → Pulls → (first second : ℕ) → List Noted → Bool
lists_firsts bits its_way p first second [] = true
lists_firsts bits its_way p first second (n ∷ ns) =
    let one = note_at first n.notes in
    let two = note_at second n.notes in
    if is_listed bits n.command (first_by its_way p one two)
    then (if stays_by its_way p one two then true else lists_firsts bits its_way p first second ns) else false

-- one of all these is none of some
pub record HasOther (bits all : List Mismatch) : Type 0 where
  pub other : Mismatch
  pub there : IsAmong other all
  pub missing : IsAmong other bits → ⊥

-- ---- the laws

-- where one of the first is none of some bits, it is another
abbrev pub OthersAreTold : Type 0
OthersAreTold = (bits : List Mismatch) (nets : List Net) (first second : ℕ) (winner : Winner) (ns : List Noted)
    → let its_way = way.Short first second winner in
    lists_firsts bits its_way (pulls_of nets its_way) first second (map (with_nets_noted nets) ns) ≡ false
    → HasOther bits (firsts_noted nets its_way ns)

-- each of the first fails in the play to the end on the board where the fault shows in the way, of a program that
-- passes on a sound board without strings
abbrev pub FirstsAreFailures : Type 0
FirstsAreFailures = (program : Program) → IsLegalProgram program.steps → (w : Wiring) → IsSoundWiring w
    → MayHaveFaults w → strings (members_of w) ≡ 0 → (play program (board_of w)).ending ≡ Pass
    → (its_way : Way) → IsWayOf w.nets its_way → (m : Mismatch)
    → IsAmong m (firsts_noted w.nets its_way (captures program w))
    → IsAmong m (all_failures program (board_of (wiring_with its_way w)))
