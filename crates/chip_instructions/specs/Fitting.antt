-- What of a description a chip rests on: every list that a register takes has that register's length.
use Rattle.std.specs.Prelude.{⊤}
use Rattle.std.specs.Prelude.{◌≡◌, ◌<◌, ◌||◌, true, ℕ, Bool, List, length, Option, Some, None, is_some}
use Rattle.std.specs.Prelude.{slice_get, option_and_then}
use Rattle.bsdl_device.specs.Device.{Access, Device}
use Rattle.bsdl_device.specs.declared.Place.TheVariants.{AtUser}
use Rattle.chip_instructions.specs.declared.Selected.{Selected}
use Rattle.chip_instructions.specs.declared.Selected.TheVariants.{Bypass, Identification, Boundary, User}
use Rattle.chip_instructions.specs.declared.decoding.Fixed.{Fixed}
use Rattle.chip_instructions.specs.declared.decoding.Fixed.TheVariants.{Free, Idcode, Usercode, Access as FromAccess}
use Rattle.chip_instructions.specs.declared.decoding.Decoded.{Decoded}
use Rattle.chip_instructions.specs.Instruction.{Meaning, reset_latch}

abbrev pub access_at : Device → ℕ → Option Access
access_at d k = slice_get d.accesses k

-- the list that a capture is fixed to
abbrev pub fixed_of : Device → Fixed → Option (List Bool)
fixed_of d Free = None
fixed_of d Idcode = d.idcode
fixed_of d Usercode = d.usercode
fixed_of d (FromAccess k) = option_and_then (λ a. a.captures) (access_at d k)

-- what a decoded instruction does
abbrev pub meaning_by : Device → Decoded → Meaning
meaning_by d m = record { mode = m.mode; selected = m.selected; fixed = fixed_of d m.fixed }

abbrev pub has_code : Device → Bool
has_code d = is_some d.idcode || is_some d.usercode

-- bits, where there are some, are so many
abbrev pub HaveLengthIfGiven : Option (List Bool) → ℕ → Type 0
HaveLengthIfGiven bits n = (b : List Bool) → bits ≡ Some b → length b ≡ n

-- the selected register is there, and has the length of what it captures
abbrev pub FitsAt : Device → Selected → Option (List Bool) → Type 0
FitsAt d Bypass fixed = ⊤
FitsAt d Boundary fixed = ⊤
FitsAt d Identification fixed = (code : List Bool) × (fixed ≡ Some code) × (length code ≡ 32) × (has_code d ≡ true)
FitsAt d (User k) fixed = (n : ℕ) × (slice_get d.users k ≡ Some n) × (0 < n)
    × HaveLengthIfGiven fixed n

pub record Fits (d : Device) (m : Decoded) : Type 0 where
  pub it : FitsAt d m.selected (fixed_of d m.fixed)

-- an access to a user register names one that is there, and captures as many bits
abbrev pub AccessFits : Device → Access → Type 0
AccessFits d a = (u : ℕ) → a.place ≡ AtUser u
    → (n : ℕ) × (slice_get d.users u ≡ Some n) × (0 < n)
    × HaveLengthIfGiven a.captures n

-- every access does
abbrev pub AllFit : Device → Type 0
AllFit d = (k : ℕ) (a : Access) → access_at d k ≡ Some a → AccessFits d a

pub record IsFormed (d : Device) : Type 0 where
  pub instruction : 0 < d.instruction_length
  pub capture : length d.capture ≡ d.instruction_length
  pub cells : 0 < length d.cells
  pub reset : length (reset_latch d) ≡ d.instruction_length
  pub idcode : HaveLengthIfGiven d.idcode 32
  pub usercode : HaveLengthIfGiven d.usercode 32
  pub accesses : AllFit d
