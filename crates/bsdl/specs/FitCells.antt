-- Which cells fit their device, by its port bits and cells alone (IEEE Std 1149.1-2001, Annex B.8.14).
use Rattle.std.specs.Prelude.{⊤}
use Rattle.std.specs.Prelude.{◌≡◌, ◌⊎◌, ℕ, true, false, List, slice_get, Option, Some, None}
use Rattle.bsdl_device.specs.Device.{Device, PortBit}
use Rattle.bsdl_device.specs.Driving.{drives}
use Rattle.bsdl_device.specs.declared.Cell.{Cell}
use Rattle.bsdl_device.specs.declared.Control3.{Control3}
use Rattle.bsdl_device.specs.declared.Function.{Function}
use Rattle.bsdl_device.specs.declared.Function.TheVariants.{Bidir, Output2, Output3, Control, ControlR, Internal}
use Rattle.bsdl_lookup.specs.Controls.{is_control}

-- the port bit of this number is there, and is none of the TAP's
abbrev pub IsPin : List PortBit → ℕ → Type 0
IsPin bits p = (b : PortBit) × (slice_get bits p ≡ Some b) × (b.is_tap ≡ false)

abbrev pub IsPinGiven : List PortBit → Option ℕ → Type 0
IsPinGiven bits None = ⊥
IsPinGiven bits (Some p) = IsPin bits p

-- control cells and internal ones have no port; each other cell has a pin
abbrev pub PortFits : List PortBit → Function → Option ℕ → Type 0
PortFits bits Control port = port ≡ None
PortFits bits ControlR port = port ≡ None
PortFits bits Internal port = port ≡ None
PortFits bits _ port = IsPinGiven bits port

-- the cell of this number is there, and is a control cell
abbrev pub IsControlCell : List Cell → ℕ → Type 0
IsControlCell cells k = (c : Cell) × (slice_get cells k ≡ Some c) × (is_control c.function ≡ true)

-- the control of cell k: OUTPUT3 and BIDIR cells have a control cell; an OUTPUT2 cell may have one, or be its own; no
-- other cell has a control
abbrev pub ControlFits : List Cell → ℕ → Function → Option Control3 → Type 0
ControlFits cells k Output3 None = ⊥
ControlFits cells k Output3 (Some c) = IsControlCell cells c.cell
ControlFits cells k Bidir None = ⊥
ControlFits cells k Bidir (Some c) = IsControlCell cells c.cell
ControlFits cells k Output2 None = ⊤
ControlFits cells k Output2 (Some c) = (c.cell ≡ k) ⊎ IsControlCell cells c.cell
ControlFits cells k _ control = control ≡ None

pub record CellFits (v : Device) (k : ℕ) (c : Cell) : Type 0 where
  pub port : PortFits v.ports c.function c.port
  pub control : ControlFits v.cells k c.function c.control

-- each cell fits, and no two drive one port bit
pub record HasFitCells (v : Device) : Type 0 where
  pub each : (k : ℕ) (c : Cell) → slice_get v.cells k ≡ Some c → CellFits v k c
  pub drivers : (j k : ℕ) (b c : Cell) → slice_get v.cells j ≡ Some b → slice_get v.cells k ≡ Some c
      → drives b.function ≡ true → drives c.function ≡ true → b.port ≡ c.port → j ≡ k
