-- A device with a sound description powers up sound.
use Rattle.std.proofs.Common.{◌≡◌, Bool, true, false, ℕ, zero, suc, ◌<◌, List, [], ◌∷◌, ◌++◌, length, map, replicate, refl, sym, subst, arith, Some, None}
use Rattle.std.proofs.lemmas.List.{length-replicate}
use Rattle.std.specs.Prelude.{Option, unwrap_or, is_some, ◌||◌, if◌then◌else◌, bytes_eq}
use Rattle.std.specs.List.{AllByRecursion, list_any}
use Rattle.jt_tap.specs.declared.State.TheVariants.{Reset}
use Rattle.bsdl_device.specs.Device.{Name, Access, Device}
use Rattle.bsdl_device.specs.declared.Place.{Place}
use Rattle.bsdl_device.specs.declared.Place.TheVariants.{AtBypass, AtBoundary, AtDeviceId, AtUser}
use Rattle.chip_instructions.specs.Instruction.{Meaning, as_bypass, reads_code, standard, access_meaning, look_up, meaning_of, instruction}
use Rattle.boundary.specs.Registers.{Registers, user_stage, user_latch}
use Rattle.boundary.specs.UserRegister.{UserRegister}
use Rattle.board_model.specs.Cells.{powered}
use Rattle.board_model.specs.Chain.{members}
use Rattle.board_model.specs.Resting.{chip_at_rest}
use Rattle.board_model.specs.Bare.{bare, bare_from, bare_name}
use Rattle.board_model.specs.Sound.{HasBit, IsThere, IsSoundFor, AllSound}
use Rattle.bsdl_device.specs.Sound.{HasBitIfGiven, IsSoundAccess, IsSoundDevice, user_length}
use Rattle.board_model.specs.Laws.{BareBoardsAreSound, SoundDescriptionsPowerUpSound}

abbrev zeros : ℕ → List Bool
zeros n = replicate n false

zeros-bit : (n : ℕ) → 0 < n → HasBit (zeros n)
zeros-bit n some = subst (λ (k : ℕ). 0 < k) (sym (length-replicate n false)) some

-- what a meaning selects is there
abbrev Selects : Registers → Meaning → Type 0
Selects r me = IsThere me.selected me.fixed r

selects-either : (r : Registers) (which : Bool) (x y : Meaning) → Selects r x → Selects r y → Selects r (if which then x else y)
selects-either r true x y first second = first
selects-either r false x y first second = second

selects-look_up : (r : Registers) (name : Name) (rows : List (Name × Meaning)) → AllByRecursion (λ row. Selects r row.1) rows → Selects r (look_up name rows)
selects-look_up r name [] all = tt
selects-look_up r name (row ∷ rows) all =
    selects-either r (bytes_eq name row.0) row.1 (look_up name rows) all.0 (selects-look_up r name rows all.1)

selects-identified : (r : Registers) (code : Option (List Bool)) → HasBitIfGiven code → ((bits : List Bool) → code ≡ Some bits → HasBit r.identification)
    → Selects r (reads_code code)
selects-identified r None bit there = tt
selects-identified r (Some bits) bit there = (there bits refl, bit)

-- the identification register as it powers up
abbrev code_register : Option (List Bool) → Option (List Bool) → List Bool
code_register idcode usercode = zeros (if is_some idcode || is_some usercode then 32 else 0)

code-first : (idcode usercode : Option (List Bool)) (bits : List Bool) → idcode ≡ Some bits → HasBit (code_register idcode usercode)
code-first None usercode bits e = absurd (cc)
code-first (Some code) usercode bits e = zeros-bit 32 (omega arith)

code-second : (idcode usercode : Option (List Bool)) (bits : List Bool) → usercode ≡ Some bits → HasBit (code_register idcode usercode)
code-second (Some code) usercode bits e = zeros-bit 32 (omega arith)
code-second None None bits e = absurd (cc)
code-second None (Some code) bits e = zeros-bit 32 (omega arith)

-- the user registers as they power up
abbrev user_registers : List ℕ → List UserRegister
user_registers users = map (λ n. record { stage = zeros n; latch = zeros n }) users

stage-bit : (k : ℕ) (users : List ℕ) → 0 < user_length k users → HasBit (user_stage k (user_registers users))
stage-bit k [] some = absurd (omega arith)
stage-bit zero (n ∷ users) some = zeros-bit n some
stage-bit (suc k) (n ∷ users) some = stage-bit k users some

latch-bit : (k : ℕ) (users : List ℕ) → 0 < user_length k users → HasBit (user_latch k (user_registers users))
latch-bit k [] some = absurd (omega arith)
latch-bit zero (n ∷ users) some = zeros-bit n some
latch-bit (suc k) (n ∷ users) some = latch-bit k users some

given-or : (fixed : Option (List Bool)) → HasBitIfGiven fixed → (other : List Bool) → HasBit other → HasBit (unwrap_or fixed other)
given-or None given other bit = bit
given-or (Some bits) given other bit = given

-- the registers that a device of this description powers up with
abbrev at_power_up : Device → Registers
at_power_up d = (powered [] d [] [] false).registers

selects-access : (d : Device) (name : Name) (place : Place) (captures : Option (List Bool)) → IsSoundDevice d
    → IsSoundAccess d.users (record { instruction = name; place = place; captures = captures })
    → Selects (at_power_up d) (access_meaning d (record { instruction = name; place = place; captures = captures })).1
selects-access d name AtBypass captures sound there = tt
selects-access d name AtBoundary captures sound there = tt
selects-access d name AtDeviceId captures sound there = selects-identified (at_power_up d) d.idcode sound.idcode (code-first d.idcode d.usercode)
selects-access d name (AtUser k) captures sound there =
    (stage-bit k d.users there.0, latch-bit k d.users there.0, given-or captures there.1)

selects-accesses : (d : Device) (accesses : List Access) → IsSoundDevice d → AllByRecursion (λ a. IsSoundAccess d.users a) accesses
    → AllByRecursion (λ row. Selects (at_power_up d) row.1) (map (access_meaning d) accesses)
selects-accesses d [] sound all = tt
selects-accesses d (a ∷ accesses) sound all =
    (selects-access d a.instruction a.place a.captures sound all.0, selects-accesses d accesses sound all.1)

selects-rows : (d : Device) → IsSoundDevice d → AllByRecursion (λ row. Selects (at_power_up d) row.1) (standard d ++ map (access_meaning d) d.accesses)
selects-rows d sound =
    let id = selects-identified (at_power_up d) d.idcode sound.idcode (code-first d.idcode d.usercode) in
    let user = selects-identified (at_power_up d) d.usercode sound.usercode (code-second d.idcode d.usercode) in
    (tt, (tt, (tt, (tt, (tt, (tt, (id, (user, (tt, (tt, selects-accesses d d.accesses sound sound.accesses))))))))))

selects-meaning : (d : Device) (name : Option Name) → IsSoundDevice d → Selects (at_power_up d) (meaning_of d name)
selects-meaning d None sound = tt
selects-meaning d (Some name) sound =
    selects-either (at_power_up d) (list_any (bytes_eq name) d.private_names) as_bypass
    (look_up name (standard d ++ map (access_meaning d) d.accesses)) tt
    (selects-look_up (at_power_up d) name (standard d ++ map (access_meaning d) d.accesses) (selects-rows d sound))

powered-sound : (d : Device) → IsSoundDevice d → IsSoundFor d (at_power_up d)
powered-sound d sound = record {
  stage = zeros-bit d.instruction_length sound.instruction;
  capture = sound.capture;
  bypass = zeros-bit 1 (omega arith);
  boundary = zeros-bit (length d.cells) sound.cells;
  cells = sound.cells;
  selects = λ latch. selects-meaning d (instruction d latch) sound;
}

pub powered_sound : SoundDescriptionsPowerUpSound
powered_sound name d core follows extest_update sound = record { it = powered-sound d sound }

bare-sound : IsSoundDevice bare
bare-sound = record { instruction = omega arith; capture = omega arith; cells = omega arith; idcode = tt; usercode = tt; accesses = tt }

bares-sound : (k n : ℕ) → AllSound (members (map (chip_at_rest Reset) (bare_from k n)))
bares-sound k zero = tt
bares-sound k (suc n) = (powered_sound (bare_name k) bare (false ∷ []) [] false bare-sound, bares-sound (suc k) n)

pub bare_sound : BareBoardsAreSound
bare_sound n = bares-sound 1 n
