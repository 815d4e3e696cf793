-- What holds of every board that a board file makes.
use Rattle.std.specs.Prelude.{⊤}
use Rattle.std.specs.Prelude.{◌≡◌, ◌<◌, ◌≤◌, false, ℕ, Option, List, [], ◌∷◌, ◌++◌, length, codes, Some, None, Ok}
use Rattle.std.specs.List.{list_any, AllByRecursion}
use Rattle.toml.specs.Data.{Members, get_member}
use Rattle.jt_limits.specs.Limits.{limits}
use Rattle.bsdl_device.specs.Device.{Device}
use Rattle.board_tables.specs.Fields.{tables_at}
use Rattle.board_parts.specs.Files.{File}
use Rattle.pin_nets.specs.declared.Pin.{Pin}
use Rattle.pin_nets.specs.declared.Rule.TheVariants.{Counted}
use Rattle.pin_nets.specs.Wired.{Net}
use Rattle.board_parts.specs.Pins.{same_pin}
use Rattle.board_plan.specs.Planned.{HasCore, IsPinOf, Member, Wiring, all_pins}
use Rattle.board_parts.specs.Strings.{HasStrings}
use Rattle.board_file.specs.Wiring.{makes}

-- each pin differs from those before it
abbrev pub AreApart : (before pins : List Pin) → Type 0
AreApart before [] = ⊤
AreApart before (p ∷ ps) = (list_any (same_pin p) before ≡ false) × AreApart (before ++ p ∷ []) ps

-- a device or more with whole cores and strings that fit them, no more devices and nets than the limits say, each pin a
-- port bit of a device, and none twice; what a net shows is counted
pub record FitsTogether (w : Wiring) : Type 0 where
  pub some : 0 < length w.members
  pub most : length w.members ≤ limits.devices
  pub nets : length w.nets ≤ limits.nets
  pub cores : AllByRecursion HasCore w.members
  pub strings : AllByRecursion HasStrings w.members
  pub pins : AllByRecursion (IsPinOf w.members) (all_pins w.nets)
  pub apart : AreApart [] (all_pins w.nets)
  pub counted : AllByRecursion (λ (n : Net). n.rule ≡ Counted) w.nets

-- a text says that this is its device
abbrev pub IsSaid : (List ℕ → Option Device) → Device → Type 0
IsSaid says d = (text : List ℕ) × (says text ≡ Some d)

-- the devices are those that texts say
abbrev pub AreSaid : (List ℕ → Option Device) → Wiring → Type 0
AreSaid says w = AllByRecursion (λ (m : Member). IsSaid says m.device) w.members

-- the law: where no device's table has the key `follow`, no device of the board has a string
abbrev pub NoStringsWithoutFollow : Type 0
NoStringsWithoutFollow = (says : List ℕ → Option Device) (files : List File) (t : Members) (w : Wiring)
    → AllByRecursion (λ d. get_member (codes "follow") d ≡ None) (tables_at (codes "device") t)
    → makes says files t ≡ Ok w → AllByRecursion (λ (m : Member). m.follows ≡ []) w.members
