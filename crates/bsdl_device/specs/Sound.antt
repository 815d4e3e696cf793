-- Every register that an instruction can select has at least one bit, and so has what it captures (IEEE Std
-- 1149.1-2001, clauses 7 to 12, ask for that and more of every component).
use Rattle.std.specs.Prelude.{⊤}
use Rattle.std.specs.Prelude.{Bool, ℕ, zero, suc, ◌<◌, List, [], ◌∷◌, length, Option, Some, None}
use Rattle.std.specs.List.{AllByRecursion}
use Rattle.bsdl_device.specs.declared.Place.{Place}
use Rattle.bsdl_device.specs.declared.Place.TheVariants.{AtBypass, AtBoundary, AtDeviceId, AtUser}
use Rattle.bsdl_device.specs.Device.{Access, Device}

-- a list of bits that is not left out has a bit
abbrev pub HasBitIfGiven : Option (List Bool) → Type 0
HasBitIfGiven None = ⊤
HasBitIfGiven (Some bits) = 0 < length bits

-- the length of the k-th user register, 0 where there is none
abbrev pub user_length : ℕ → List ℕ → ℕ
user_length k [] = 0
user_length zero (n ∷ ns) = n
user_length (suc k) (n ∷ ns) = user_length k ns

-- An own instruction that selects a user register selects one of at least one bit, and what it captures has one.
abbrev pub IsSoundAt : List ℕ → Place → Option (List Bool) → Type 0
IsSoundAt users (AtUser k) captures = (0 < user_length k users) × HasBitIfGiven captures
IsSoundAt users AtBypass captures = ⊤
IsSoundAt users AtBoundary captures = ⊤
IsSoundAt users AtDeviceId captures = ⊤

abbrev pub IsSoundAccess : List ℕ → Access → Type 0
IsSoundAccess users a = IsSoundAt users a.place a.captures

-- A description in which every register and every capture has at least one bit. IEEE Std 1149.1-2001 asks for more:
-- two bits of instruction (clause 7) and codes of 32 (clause 12).
pub record IsSoundDevice (d : Device) : Type 0 where
  pub instruction : 0 < d.instruction_length
  pub capture : 0 < length d.capture
  pub cells : 0 < length d.cells
  pub idcode : HasBitIfGiven d.idcode
  pub usercode : HasBitIfGiven d.usercode
  pub accesses : AllByRecursion (λ a. IsSoundAccess d.users a) d.accesses
