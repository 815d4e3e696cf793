-- Which ways of faults can show at all: what pins can drive, whatever a program does, and which pins are read.
use Rattle.std.specs.Prelude.{◌≡◌, ◌≢◌, Bool, true, false, not, ◌||◌, ℕ, ◌==◌, List, [], ◌∷◌, map, slice_get}
use Rattle.std.specs.Prelude.{Option, Some, None, if◌then◌else◌}
use Rattle.std.specs.List.{AllByRecursion, AllPairs, list_any}
use Rattle.bsdl_device.specs.declared.Cell.{Cell}
use Rattle.bsdl_device.specs.declared.Control3.{Control3}
use Rattle.boundary.specs.Cells.{driver_from, is_port, left_by}
use Rattle.boundary.specs.Masks.{sighted_port}
use Rattle.pin_nets.specs.declared.Drive.{Drive}
use Rattle.pin_nets.specs.declared.Drive.TheVariants.{Strong, Nothing}
use Rattle.pin_nets.specs.declared.Follow.{Follow}
use Rattle.pin_nets.specs.declared.Level.{Level}
use Rattle.pin_nets.specs.declared.Pin.{Pin}
use Rattle.pin_nets.specs.declared.Rule.TheVariants.{Counted}
use Rattle.pin_nets.specs.Levels.{pull_drive, reads, shown}
use Rattle.pin_nets.specs.Wired.{Net}
use Rattle.board_plan.specs.Planned.{IsPinOf, Member, Wiring, all_pins}
use Rattle.board_model.specs.Following.{IsAmong}
use Rattle.board_model.specs.Nets.{net_of}
use Rattle.board_faults.specs.declared.kinds.Way.{Way}
use Rattle.board_faults.specs.Faults.{with_way}

-- a board whose nets may have faults: each pin is a port bit, on one net once, and every net shows what its drivers say
pub record MayHaveFaults (w : Wiring) : Type 0 where
  pub pins : AllByRecursion (IsPinOf w.members) (all_pins w.nets)
  pub apart : AllPairs (λ (p q : Pin). p ≢ q) (all_pins w.nets)
  pub counted : AllByRecursion (λ (n : Net). n.rule ≡ Counted) w.nets

-- What the k-th cell of a device can drive where it drives a pin: nothing, as under HIGHZ; what its control leaves; and
-- either bit, but where it is its own control the one that does not disable it.
abbrev pub drives_of : ℕ → Option Control3 → List Drive
drives_of k None = Nothing ∷ Strong false ∷ Strong true ∷ []
drives_of k (Some t) =
    Nothing ∷ left_by t.leaves
    ∷ (if t.cell == k then Strong (not t.disabling) ∷ [] else Strong false ∷ Strong true ∷ [])

-- what a pin can drive whose driving cell is this one; without one it drives nothing
abbrev pub drives_by : List Cell → Option ℕ → List Drive
drives_by cells None = Nothing ∷ []
drives_by cells (Some k) = elim (slice_get cells k) [ None ↦ Nothing ∷ [] | Some c ↦ drives_of k c.control ]

-- what a port bit can drive
abbrev pub port_drives : List Cell → ℕ → List Drive
port_drives cells port = drives_by cells (driver_from port 0 cells)

-- what a port bit of this device can drive, if there is the device
abbrev pub drives_at : (port : ℕ) → Option Member → List Drive
drives_at port None = Nothing ∷ []
drives_at port (Some m) = port_drives m.device.cells port

abbrev pub pin_drives : List Member → Pin → List Drive
pin_drives ms pin = drives_at pin.port (slice_get ms pin.device)

-- every pin drives something that it can
abbrev pub CanDrive : List Member → (Pin → Drive) → Type 0
CanDrive ms drives = (pin : Pin) → IsAmong (drives pin) (pin_drives ms pin)

-- what a pin sees where the pins drive this
abbrev pub level_with : (Pin → Drive) → Net → Level
level_with drives net = shown net.rule (pull_drive net.pull) (map drives net.pins)

abbrev pub sees_with : (Pin → Drive) → List Net → Pin → Bool
sees_with drives nets pin = reads (level_with drives (net_of nets pin.device pin.port))

-- a cell captures what the port bit sees, or a string has it as its source
abbrev pub is_read : Member → ℕ → Bool
is_read m port =
    list_any (λ (c : Cell). is_port port (sighted_port c.port c.function)) m.device.cells
    || list_any (λ (f : Follow). port == f.source) m.follows

-- No program could catch a way: whatever the pins drive that they can, every pin that is read sees the same with the
-- fault as without.
abbrev pub IsInvisible : Wiring → Way → Type 0
IsInvisible w way = (drives : Pin → Drive) → CanDrive w.members drives → (pin : Pin) (m : Member)
    → slice_get w.members pin.device ≡ Some m → is_read m pin.port ≡ true
    → sees_with drives w.nets pin ≡ sees_with drives (with_way way w.nets) pin
