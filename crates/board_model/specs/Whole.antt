-- The register meaning: a board at rest, and capture, shift, update and reset of all devices at once (IEEE Std
-- 1149.1-2001, clauses 6, 7 and 9), without TCK and TDO. Of the states other than the resting place it knows those
-- that a stated path names.
use Rattle.std.specs.Prelude.{Bool, true, false, ℕ, suc, List, [], ◌∷◌, ◌++◌, map, length, take, drop, if◌then◌else◌}
use Rattle.jt_tap.specs.declared.Column.{Column}
use Rattle.jt_tap.specs.declared.Column.TheVariants.{Dr, Ir}
use Rattle.jt_tap.specs.declared.State.{State}
use Rattle.jt_tap.specs.declared.State.TheVariants.{Reset, DrPause, IrPause}
use Rattle.jt_tap.specs.declared.Work.{Work}
use Rattle.jt_tap.specs.declared.Work.TheVariants.{Resets, Captures, Shifts, Updates, Waits}
use Rattle.jt_tap.specs.Controller.{is_at, pause, work}
use Rattle.boundary.specs.Registers.{selected_bits, put, after_capture, after_update, after_reset}
use Rattle.board_model.specs.Cells.{Member, Told, surroundings, untold}
use Rattle.pin_nets.specs.Wired.{Net}
use Rattle.board_model.specs.Nets.{told}

-- A board at rest. The place is RESET, IDLE, DRPAUSE or IRPAUSE, but amid a stated path; in a pause an update of its
-- column is pending.
pub record AtRest : Type 0 where
  pub place : State
  pub trst : Bool
  pub nets : List Net
  pub members : List Member

abbrev pub selected_bits_of : Column → Member → List Bool
selected_bits_of column m = selected_bits m.device column m.registers

-- The selected registers joined, from TDO to TDI.
abbrev pub joined_bits : Column → List Member → List Bool
joined_bits column [] = []
joined_bits column (m ∷ ms) = selected_bits_of column m ++ joined_bits column ms

-- a joined list, cut back by the same lengths
abbrev pub cut_back : Column → List Bool → List Member → List Member
cut_back column bits [] = []
cut_back column bits (m ∷ ms) =
    record m { registers = put m.device column (take (length (selected_bits_of column m)) bits) m.registers }
    ∷ cut_back column (drop (length (selected_bits_of column m)) bits) ms

-- what a capture gives a device that is told this
abbrev pub capture_member : Column → Told → Member → Member
capture_member column about m =
    record m { registers = after_capture m.device column (surroundings about m) m.registers }

-- Every selected register gets its captured list, from device k on.
abbrev pub capture_all : Column → (ℕ → Told) → ℕ → List Member → List Member
capture_all column about k [] = []
capture_all column about k (m ∷ ms) = capture_member column (about k) m ∷ capture_all column about (suc k) ms

abbrev pub update_member : Column → Member → Member
update_member column m = record m { registers = after_update m.device column m.registers }

abbrev pub reset_member : Member → Member
reset_member m = record m { registers = after_reset m.device (surroundings untold m) m.registers }

-- capture: all from the levels and the core bits in force before
abbrev pub capture : Column → AtRest → AtRest
capture column m = record m { members = capture_all column (told m.nets m.members) 0 m.members }

-- shift: the out is the first of the joined list followed by t, the new registers what comes after
abbrev pub out_of_members : Column → List Bool → List Member → List Bool
out_of_members column t ms = take (length t) (joined_bits column ms ++ t)

abbrev pub out : Column → List Bool → AtRest → List Bool
out column t m = out_of_members column t m.members

abbrev pub shift : Column → List Bool → AtRest → AtRest
shift column t m =
    record m { members = cut_back column (drop (length t) (joined_bits column m.members ++ t)) m.members }

abbrev pub update : Column → AtRest → AtRest
update column m = record m { members = map (update_member column) m.members }

abbrev pub reset_all : AtRest → AtRest
reset_all m = record m { members = map reset_member m.members }

-- settle: the pending update, if there is one, is made
abbrev pub settle : AtRest → AtRest
settle m = at m.place
  where
    at : State → AtRest
    at DrPause = update Dr m
    at IrPause = update Ir m
    at _ = m

-- arrive: RESET resets, a pause captures its column
abbrev pub arrive : State → AtRest → AtRest
arrive Reset m = record (reset_all m) { place = Reset }
arrive DrPause m = record (capture Dr m) { place = DrPause }
arrive IrPause m = record (capture Ir m) { place = IrPause }
arrive place m = record m { place = place }

-- one named state of a stated path
abbrev pub pass : Work → AtRest → AtRest
pass Resets m = reset_all m
pass (Captures column) m = capture column m
pass (Shifts column) m = shift column (false ∷ []) m
pass (Updates column) m = update column m
pass Waits m = m

abbrev pub along : List State → AtRest → AtRest
along [] m = m
along (s ∷ path) m = along path (record (pass (work s) m) { place = s })

-- a device's pending update, if there is one at this place, is made
abbrev pub settled_member : State → Member → Member
settled_member place m = if is_at place (pause Dr) then update_member Dr m else if is_at place (pause Ir)
    then update_member Ir m else m

-- Asserting TRST resets a device with a TRST port without settling it; any other is settled, then reset.
abbrev pub trst_member : (settled : Member → Member) → Member → Member
trst_member settled m = reset_member (if m.device.has_trst then m else settled m)

abbrev pub trst_asserted : AtRest → AtRest
trst_asserted m = record m {
  place = Reset;
  trst = true;
  members = map (trst_member (settled_member m.place)) m.members;
}

-- what the opening makes of a board at rest
abbrev pub after_opening : AtRest → AtRest
after_opening m = record (reset_all (settle m)) { place = Reset; trst = false }
