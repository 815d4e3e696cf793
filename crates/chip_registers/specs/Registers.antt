-- The registers of one device, and what capture, update and reset do to them (IEEE Std 1149.1-2001, clauses 7, 9, 10,
-- 11 and 12). A register is a list, bit 0 nearest TDO.
use Rattle.std.specs.Prelude.{Bool, false, ℕ, zero, suc, List, [], ◌∷◌, replicate, Option, unwrap_or}
use Rattle.jt_tap.specs.declared.Column.{Column}
use Rattle.jt_tap.specs.declared.Column.TheVariants.{Dr, Ir}
use Rattle.chip_instructions.specs.Device.{Device}
use Rattle.chip_instructions.specs.declared.Mode.{Mode}
use Rattle.chip_instructions.specs.declared.Selected.{Selected}
use Rattle.chip_instructions.specs.declared.Selected.TheVariants.{Bypass, Identification, Boundary, User}
use Rattle.chip_registers.specs.declared.users.UserRegister.{UserRegister}
use Rattle.chip_instructions.specs.Instruction.{meaning, reset_latch}

-- `bypass` is one bit; `identification` is empty on a device without a code
pub record Registers : Type 0 where
  pub latch : List Bool
  pub stage : List Bool
  pub bypass : List Bool
  pub identification : List Bool
  pub boundary : List Bool
  pub update : List Bool
  pub users : List UserRegister

-- what the device knows of its boundary register: the list that a capture would give in each mode,
-- and the update stage that a reset would give
pub record Surroundings : Type 0 where
  pub captures : Mode → List Bool
  pub at_reset : List Bool

-- n bits, all 0
abbrev pub zeros : ℕ → List Bool
zeros n = replicate n false

-- At power-up each user register has its length, all bits 0.
abbrev pub new_user : ℕ → UserRegister
new_user n = record { stage = zeros n; latch = zeros n }

abbrev pub user_stage : ℕ → List UserRegister → List Bool
user_stage k [] = []
user_stage zero (u ∷ us) = u.stage
user_stage (suc k) (u ∷ us) = user_stage k us

abbrev pub user_latch : ℕ → List UserRegister → List Bool
user_latch k [] = []
user_latch zero (u ∷ us) = u.latch
user_latch (suc k) (u ∷ us) = user_latch k us

abbrev pub with_user_stage : ℕ → List Bool → List UserRegister → List UserRegister
with_user_stage k bits [] = []
with_user_stage zero bits (u ∷ us) = record u { stage = bits } ∷ us
with_user_stage (suc k) bits (u ∷ us) = u ∷ with_user_stage k bits us

-- the user register's latch takes its stage
abbrev pub user_updated : ℕ → List UserRegister → List UserRegister
user_updated k [] = []
user_updated zero (u ∷ us) = record u { latch = u.stage } ∷ us
user_updated (suc k) (u ∷ us) = u ∷ user_updated k us

abbrev pub stage_of : Selected → Registers → List Bool
stage_of Bypass r = r.bypass
stage_of Identification r = r.identification
stage_of Boundary r = r.boundary
stage_of (User k) r = user_stage k r.users

abbrev pub with_stage : Selected → List Bool → Registers → Registers
with_stage Bypass bits r = record r { bypass = bits }
with_stage Identification bits r = record r { identification = bits }
with_stage Boundary bits r = record r { boundary = bits }
with_stage (User k) bits r = record r { users = with_user_stage k bits r.users }

-- The register between TDI and TDO: the instruction stage in the IR column, else what the latch selects.
abbrev pub selected_bits : Device → Column → Registers → List Bool
selected_bits d Ir r = r.stage
selected_bits d Dr r = stage_of (meaning d r.latch).selected r

abbrev pub put : Device → Column → List Bool → Registers → Registers
put d Ir bits r = record r { stage = bits }
put d Dr bits r = with_stage (meaning d r.latch).selected bits r

-- What the selected register captures: bypass 0, the identification register its code,
-- the boundary what its cells see, a user register its fixed list or its latch.
abbrev pub capture_of : Selected → Option (List Bool) → List Bool → Registers → List Bool
capture_of Bypass fixed seen r = false ∷ []
capture_of Identification fixed seen r = unwrap_or fixed []
capture_of Boundary fixed seen r = seen
capture_of (User k) fixed seen r = unwrap_or fixed (user_latch k r.users)

abbrev pub after_capture : Device → Column → Surroundings → Registers → Registers
after_capture d Ir around r = record r { stage = d.capture }
after_capture d Dr around r =
    let m = meaning d r.latch in with_stage m.selected (capture_of m.selected m.fixed (around.captures m.mode) r) r

-- The latch takes the instruction stage; a selected boundary's update stage or user register's latch takes its stage.
abbrev pub update_selected : Selected → Registers → Registers
update_selected Boundary r = record r { update = r.boundary }
update_selected (User k) r = record r { users = user_updated k r.users }
update_selected _ r = r

abbrev pub after_update : Device → Column → Registers → Registers
after_update d Ir r = record r { latch = r.stage }
after_update d Dr r = update_selected (meaning d r.latch).selected r

-- The latch takes its reset instruction, each controlr update cell its disabling value. All else is kept.
abbrev pub after_reset : Device → Surroundings → Registers → Registers
after_reset d around r = record r { latch = reset_latch d; update = around.at_reset }
