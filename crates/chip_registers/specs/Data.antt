-- The data registers of a device, beside its instruction register (IEEE Std 1149.1-2001, clause 9).
use Rattle.std.specs.Prelude.{⊤}
use Rattle.std.specs.Prelude.{◌≡◌, ◌<◌, ℕ, Bool, List, [], ◌∷◌, length, map, slice_get, Option, Some}
use Rattle.chip_instructions.specs.declared.Selected.{Selected}
use Rattle.chip_instructions.specs.declared.Selected.TheVariants.{Bypass, Identification, Boundary, User}
use Rattle.chip_registers.specs.declared.data.DataRegisters.{DataRegisters}
use Rattle.chip_registers.specs.Registers.{Registers}

-- these data registers, beside an instruction register with this latch and this stage
abbrev pub registers_of : {B : Type 0} → (stage update : B → List Bool) → (latch instruction : List Bool)
    → DataRegisters B → Registers
registers_of stage update latch instruction d = record {
  latch = latch;
  stage = instruction;
  bypass = d.bypass ∷ [];
  identification = d.identification;
  boundary = stage d.boundary;
  update = update d.boundary;
  users = d.users.items;
}

-- how many bits each has: of a user register its stage and its latch
pub record Lengths : Type 0 where
  pub identification : ℕ
  pub boundary : ℕ
  pub users : List (ℕ × ℕ)

abbrev pub lengths_of : {B : Type 0} → (stage : B → List Bool) → DataRegisters B → Lengths
lengths_of stage d = record {
  identification = length d.identification;
  boundary = length (stage d.boundary);
  users = map (λ u. (length u.stage, length u.latch)) d.users.items;
}

-- The selected register is there and has a bit.
abbrev pub IsThere : Lengths → Selected → Type 0
IsThere l Bypass = ⊤
IsThere l Identification = 0 < l.identification
IsThere l Boundary = 0 < l.boundary
IsThere l (User k) = (n : ℕ) × (slice_get l.users k ≡ Some (n, n)) × (0 < n)

-- What it is fixed to capture is as long as the register; the identification register is always fixed.
abbrev pub FixedFits : Lengths → Selected → Option (List Bool) → Type 0
FixedFits l Identification fixed = (code : List Bool) × (fixed ≡ Some code) × (length code ≡ l.identification)
FixedFits l (User k) fixed = (b : List Bool) → fixed ≡ Some b → slice_get l.users k ≡ Some (length b, length b)
FixedFits l _ fixed = ⊤
