-- What numbered pins drive is what they drive on the board.
use Rattle.std.proofs.Common.{◌≡◌, ℕ, zero, suc, Bool, List, [], ◌∷◌, map, get_or, slice_get, Option, Some, None, unwrap_or, refl, sym, ap, ◌∙◌}
use Rattle.std.specs.Prelude.{option_map}
use Rattle.chip_instructions.specs.declared.Mode.{Mode}
use Rattle.boundary.specs.Cells.{driven_in}
use Rattle.boundary.proofs.DriverLaws.{driven_by_cell}
use Rattle.pin_nets.specs.declared.Drive.TheVariants.{Nothing}
use Rattle.pin_nets.specs.declared.Pin.{Pin}
use Rattle.board_plan.specs.declared.plan.PlannedDevice.{PlannedDevice}
use Rattle.board_plan.specs.Planned as planned
use Rattle.board_plan.specs.View.{member as planned_member}
use Rattle.board_model.specs.Cells.{Member}
use Rattle.board_model.specs.Chain.{ChipState, members}
use Rattle.board_model.specs.Nets.{pin_drive}
use Rattle.fault_events.specs.Drives.{driver_at, member_drive, mode_of, modes, wire_drive, wire_of}
use Rattle.fault_events.specs.Parts.{planned_part, planned_parts}

pub member_at : (cs : List ChipState) (k : ℕ) (c : ChipState) → slice_get cs k ≡ Some c → slice_get (members cs) k ≡ Some c.member
member_at [] k c e = absurd (cc)
member_at (x ∷ cs) zero c e = let same : x ≡ c = cc in ap (λ (y : ChipState). Some y.member) same
member_at (x ∷ cs) (suc k) c e = member_at cs k c e

mode-at : (ms : List Member) (k : ℕ) (m : Member) (d : Mode) → slice_get ms k ≡ Some m → get_or (modes ms) k d ≡ mode_of m
mode-at [] k m d e = absurd (cc)
mode-at (x ∷ ms) zero m d e = let same : x ≡ m = cc in ap mode_of same
mode-at (x ∷ ms) (suc k) m d e = mode-at ms k m d e

core-at : (ms : List Member) (ds : List PlannedDevice) → planned_parts ms ≡ map planned_member ds → (k : ℕ) (m : Member) → slice_get ms k ≡ Some m → (d : PlannedDevice)
    → (get_or ds k d).core ≡ m.core
core-at [] ds same k m e d = absurd (cc)
core-at (x ∷ ms) [] same k m e d = absurd (cc)
core-at (x ∷ ms) (y ∷ ds) same zero m e d =
    let head : planned_part x ≡ planned_member y = cc in
    let is : x ≡ m = cc in
    sym (ap (λ (p : planned.Member). p.core) head) ∙ ap (λ (z : Member). z.core) is
core-at (x ∷ ms) (y ∷ ds) same (suc k) m e d =
    let tail : planned_parts ms ≡ map planned_member ds = cc in
    core-at ms ds tail k m e d

pub drive_at : (ms : List Member) (ds : List PlannedDevice) → planned_parts ms ≡ map planned_member ds → (k : ℕ) (m : Member) → slice_get ms k ≡ Some m
    → (how : Mode) (d : PlannedDevice) (driver : Option ℕ)
    → driven_in (get_or (modes ms) k how) m.device.cells m.registers.update (get_or ds k d).core driver
    ≡ unwrap_or (option_map (member_drive driver) (slice_get ms k)) Nothing
drive_at ms ds same k m e how d driver =
    ap (λ (x : Mode). driven_in x m.device.cells m.registers.update (get_or ds k d).core driver) (mode-at ms k m how e)
    ∙ ap (λ (bits : List Bool). driven_in (mode_of m) m.device.cells m.registers.update bits driver) (core-at ms ds same k m e d)
    ∙ sym (ap (λ (o : Option Member). unwrap_or (option_map (member_drive driver) o) Nothing) e)

-- ---- on the board

part-at : (ms : List Member) (k : ℕ) → slice_get (planned_parts ms) k ≡ option_map planned_part (slice_get ms k)
part-at [] k = refl
part-at (m ∷ ms) zero = refl
part-at (m ∷ ms) (suc k) = part-at ms k

pub pin_drives : (ms : List Member) (pin : Pin) → wire_drive ms (wire_of (planned_parts ms) pin) ≡ pin_drive ms pin
pin_drives ms pin =
    ap (λ (o : Option planned.Member). unwrap_or (option_map (member_drive (driver_at pin.port o)) (slice_get ms pin.device)) Nothing) (part-at ms pin.device)
    ∙ by (slice_get ms pin.device)
  where
    by : (o : Option Member)
        → unwrap_or (option_map (member_drive (driver_at pin.port (option_map planned_part o))) o) Nothing
        ≡ unwrap_or (option_map (λ m. Rattle.board_model.specs.Cells.drive m pin.port) o) Nothing
    by None = refl
    by (Some m) = driven_by_cell (mode_of m) m.device.cells m.registers.update m.core pin.port
