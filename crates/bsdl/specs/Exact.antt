-- Every list that a register takes has that register's length. What the instruction register and the codes take stands
-- with the limits; here is what user registers take (IEEE Std 1149.1-2001, Annex B.8.13).
use Rattle.std.specs.Prelude.{⊤}
use Rattle.std.specs.Prelude.{ℕ, ◌<◌, Bool, List, Option, Some, None, slice_get}
use Rattle.std.specs.List.{AllByRecursion}
use Rattle.bsdl_device.specs.declared.Place.{Place}
use Rattle.bsdl_device.specs.declared.Place.TheVariants.{AtBypass, AtBoundary, AtDeviceId, AtUser}
use Rattle.bsdl_device.specs.Device.{Access, Device}
use Rattle.bsdl.specs.Limited.{HasLengthIfGiven, IsLimitedDevice}

-- the register is there and has a bit, and what it captures, if that is fixed, is as long as it
abbrev pub Takes : Option ℕ → Option (List Bool) → Type 0
Takes None captures = ⊥
Takes (Some n) captures = (0 < n) × HasLengthIfGiven n captures

abbrev pub IsExactAt : List ℕ → Place → Option (List Bool) → Type 0
IsExactAt users (AtUser k) captures = Takes (slice_get users k) captures
IsExactAt users AtBypass captures = ⊤
IsExactAt users AtBoundary captures = ⊤
IsExactAt users AtDeviceId captures = ⊤

abbrev pub IsExactAccess : List ℕ → Access → Type 0
IsExactAccess users a = IsExactAt users a.place a.captures

pub record IsExactDevice (d : Device) : Type 0 where
  pub limited : IsLimitedDevice d
  pub accesses : AllByRecursion (λ a. IsExactAccess d.users a) d.accesses
