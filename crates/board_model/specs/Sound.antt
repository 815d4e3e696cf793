-- Every register that an instruction can select has at least one bit, and so has what it captures (IEEE Std
-- 1149.1-2001, clauses 7 to 12, ask for that and more of every component).
use Rattle.std.specs.Prelude.{⊤}
use Rattle.std.specs.Prelude.{◌≡◌, Bool, ◌<◌, ◌≤◌, List, [], length, Option, unwrap_or}
use Rattle.std.specs.List.{AllByRecursion}
use Rattle.jt_limits.specs.Limits.{limits}
use Rattle.bsdl_device.specs.Device.{Device}
use Rattle.bsdl_device.specs.Sound.{IsSoundDevice}
use Rattle.chip_instructions.specs.declared.Selected.{Selected}
use Rattle.chip_instructions.specs.declared.Selected.TheVariants.{Bypass, Identification, Boundary, User}
use Rattle.chip_instructions.specs.Instruction.{meaning}
use Rattle.boundary.specs.Registers.{Registers, user_stage, user_latch}
use Rattle.board_model.specs.Cells.{Member, powered}
use Rattle.board_model.specs.Chain.{BoardState, ChipState, members}

-- a register is at least one bit long
abbrev pub HasBit : List Bool → Type 0
HasBit bits = 0 < length bits

-- what an instruction selects is there, and so is what it captures
abbrev pub IsThere : Selected → Option (List Bool) → Registers → Type 0
IsThere Bypass fixed r = ⊤
IsThere Boundary fixed r = ⊤
IsThere Identification fixed r = HasBit r.identification × HasBit (unwrap_or fixed [])
IsThere (User k) fixed r = HasBit (user_stage k r.users) × HasBit (user_latch k r.users)
    × ((other : List Bool) → HasBit other → HasBit (unwrap_or fixed other))

-- of one device, in a state of its registers: whatever the latch names
pub record IsSoundFor (d : Device) (r : Registers) : Type 0 where
  pub stage : HasBit r.stage
  pub capture : HasBit d.capture
  pub bypass : HasBit r.bypass
  pub boundary : HasBit r.boundary
  pub cells : 0 < length d.cells
  pub selects : (latch : List Bool) → IsThere (meaning d latch).selected (meaning d latch).fixed r

pub record IsSound (m : Member) : Type 0 where
  pub it : IsSoundFor m.device m.registers

abbrev pub AllSound : List Member → Type 0
AllSound ms = AllByRecursion (λ m. IsSound m) ms

-- In every device the registers that an instruction can place between TDI and TDO have at least one bit, and so has
-- what they capture.
abbrev pub IsSoundBoard : BoardState → Type 0
IsSoundBoard b = AllSound (members b.chips)

-- a board has at least one device: on none, TDI and TDO meet nowhere
abbrev pub HasDevice : BoardState → Type 0
HasDevice b = 0 < length b.chips

-- A device as it powers up, of a sound description.
pub record IsPoweredUp (m : Member) : Type 0 where
  pub description : IsSoundDevice m.device
  pub powered_up : m ≡ powered m.name m.device m.core m.follows m.extest_update

-- What a board keeps whatever bytes it takes: a device or more, no more than the limit, all sound.
pub record IsChain (chips : List ChipState) : Type 0 where
  pub some : 0 < length chips
  pub most : length chips ≤ limits.devices
  pub sound : AllSound (members chips)
