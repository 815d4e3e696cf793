-- The driving cells of pins by tables, one a device.
use Rattle.std.proofs.Common.{◌≡◌, ◌<◌, ℕ, zero, suc, List, [], ◌∷◌, ◌++◌, length, map, slice_get, slice_index_or, Option, Some, None, refl, sym, ap, ap₂, subst, ◌∙◌, arith}
use Rattle.std.specs.List.{AllByRecursion}
use Rattle.boundary.specs.Cells.{driver_from}
use Rattle.pin_nets.specs.declared.Pin.{Pin}
use Rattle.board_plan.specs.Planned.{IsPinOf, Member}
use Rattle.fault_events.specs.declared.drives.PinWire.{PinWire}
use Rattle.fault_events.specs.Drives.{AreDriverTables, HasDrivers, driver_at, wire_in, wire_of}
use Rattle.fault_events.specs.Numbers.{number_in}

pub tables_more : (ms : List Member) (ts : List (List (Option ℕ))) (m : Member) (t : List (Option ℕ)) → AreDriverTables ms ts → HasDrivers m t
    → AreDriverTables (ms ++ m ∷ []) (ts ++ t ∷ [])
tables_more [] [] m t all one = (one, tt)
tables_more [] (u ∷ ts) m t all one = absurd all
tables_more (n ∷ ms) [] m t all one = absurd all
tables_more (n ∷ ms) (u ∷ ts) m t all one = (all.0, tables_more ms ts m t all.1 one)

there : (ms : List Member) (ts : List (List (Option ℕ))) → AreDriverTables ms ts → (device port : ℕ) (m : Member) → slice_get ms device ≡ Some m
    → port < length m.device.ports → number_in ts device port ≡ driver_from port 0 m.device.cells
there [] ts all device port m at inside = absurd (cc)
there (n ∷ ms) [] all device port m at inside = absurd all
there (n ∷ ms) (t ∷ ts) all zero port m at inside =
    let same : n ≡ m = cc in
    let its : HasDrivers m t = subst (λ (x : Member). HasDrivers x t) same all.0 in
    its.drivers.each port (omega (arith, inside, its.long))
there (n ∷ ms) (t ∷ ts) all (suc device) port m at inside = there ms ts all.1 device port m at inside

wire_there : (ms : List Member) (ts : List (List (Option ℕ))) → AreDriverTables ms ts → (pin : Pin) → IsPinOf ms pin → wire_in ts pin ≡ wire_of ms pin
wire_there ms ts all pin its =
    λ i. record {
      device = pin.device;
      driver = (there ms ts all pin.device pin.port its.0 its.1 its.2 ∙ sym (ap (driver_at pin.port) its.1)) i;
    }

pub wires_there : (ms : List Member) (ts : List (List (Option ℕ))) → AreDriverTables ms ts → (pins : List Pin) → AllByRecursion (IsPinOf ms) pins
    → map (wire_in ts) pins ≡ map (wire_of ms) pins
wires_there ms ts all [] each = refl
wires_there ms ts all (p ∷ pins) each =
    ap₂ (λ (w : PinWire) (ws : List PinWire). w ∷ ws) (wire_there ms ts all p each.0) (wires_there ms ts all pins each.1)
