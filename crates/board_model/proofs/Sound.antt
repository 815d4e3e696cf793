-- Every register that an instruction can select has at least one bit, and no action changes that.
use Rattle.std.proofs.Common.{◌≡◌, Bool, ℕ, zero, suc, ◌<◌, List, [], ◌∷◌, length, take, drop, refl, sym, map, subst, arith}
use Rattle.std.specs.Prelude.{Option}
use Rattle.jt_tap.specs.declared.Column.{Column}
use Rattle.jt_tap.specs.declared.Column.TheVariants.{Dr, Ir}
use Rattle.bsdl_device.specs.Device.{Device}
use Rattle.bsdl_device.specs.declared.Cell.{Cell}
use Rattle.chip_instructions.specs.declared.Selected.{Selected}
use Rattle.chip_instructions.specs.declared.Selected.TheVariants.{Bypass, Identification, Boundary, User}
use Rattle.chip_instructions.specs.Instruction.{meaning}
use Rattle.boundary.specs.Registers.{Registers, selected_bits, put, after_capture, after_update, stage_of, with_stage, user_stage, user_latch, with_user_stage, user_updated, capture_of, update_selected}
use Rattle.boundary.specs.UserRegister.{UserRegister}
use Rattle.board_model.specs.Cells.{Member, surroundings, Told}
use Rattle.boundary.specs.Sight.{capture_by_sight}
use Rattle.boundary.specs.Cells.{takes_update}
use Rattle.board_model.specs.Whole.{selected_bits_of, joined_bits, cut_back, capture_all, update_member, reset_member}
use Rattle.board_model.specs.Sound.{HasBit, IsThere, IsSoundFor, AllSound}
use Rattle.board_model.proofs.Shift.{Full, left-part, right-part}

stage-bit : (s : Selected) (fixed : Option (List Bool)) (r : Registers) → HasBit r.bypass → HasBit r.boundary → IsThere s fixed r → HasBit (stage_of s r)
stage-bit Bypass fixed r by bo there = by
stage-bit Identification fixed r by bo there = there.0
stage-bit Boundary fixed r by bo there = bo
stage-bit (User k) fixed r by bo there = there.0

pub chosen-bit : (d : Device) (column : Column) (r : Registers) → IsSoundFor d r → HasBit (selected_bits d column r)
chosen-bit d Ir r sound = sound.stage
chosen-bit d Dr r sound = stage-bit (meaning d r.latch).selected (meaning d r.latch).fixed r sound.bypass sound.boundary (sound.selects r.latch)

pub Sound-Full : (column : Column) (ms : List Member) → AllSound ms → Full column ms
Sound-Full column [] sound = tt
Sound-Full column (m ∷ ms) sound = (chosen-bit m.device column m.registers sound.0.it, Sound-Full column ms sound.1)

user-stage-kept : (j k : ℕ) (bits : List Bool) (us : List UserRegister) → HasBit bits → HasBit (user_stage j us) → HasBit (user_stage j (with_user_stage k bits us))
user-stage-kept j k bits [] some there = there
user-stage-kept zero zero bits (u ∷ us) some there = some
user-stage-kept zero (suc k) bits (u ∷ us) some there = there
user-stage-kept (suc j) zero bits (u ∷ us) some there = there
user-stage-kept (suc j) (suc k) bits (u ∷ us) some there = user-stage-kept j k bits us some there

user-latch-kept : (j k : ℕ) (bits : List Bool) (us : List UserRegister) → user_latch j (with_user_stage k bits us) ≡ user_latch j us
user-latch-kept j k bits [] = refl
user-latch-kept zero zero bits (u ∷ us) = refl
user-latch-kept zero (suc k) bits (u ∷ us) = refl
user-latch-kept (suc j) zero bits (u ∷ us) = refl
user-latch-kept (suc j) (suc k) bits (u ∷ us) = user-latch-kept j k bits us

there-with_stage : (t s : Selected) (fixed : Option (List Bool)) (bits : List Bool) (r : Registers) → HasBit bits → IsThere t fixed r → IsThere t fixed (with_stage s bits r)
there-with_stage Bypass s fixed bits r some there = tt
there-with_stage Boundary s fixed bits r some there = tt
there-with_stage Identification Bypass fixed bits r some there = there
there-with_stage Identification Identification fixed bits r some there = (some, there.1)
there-with_stage Identification Boundary fixed bits r some there = there
there-with_stage Identification (User k) fixed bits r some there = there
there-with_stage (User j) Bypass fixed bits r some there = there
there-with_stage (User j) Identification fixed bits r some there = there
there-with_stage (User j) Boundary fixed bits r some there = there
there-with_stage (User j) (User k) fixed bits r some there = (
  user-stage-kept j k bits r.users some there.0,
  subst (λ (l : List Bool). 0 < length l) (sym (user-latch-kept j k bits r.users)) there.1,
  there.2,
)

sound-with_stage : (d : Device) (s : Selected) (bits : List Bool) (r : Registers) → HasBit bits → IsSoundFor d r → IsSoundFor d (with_stage s bits r)
sound-with_stage d Bypass bits r some sound = record {
  stage = sound.stage;
  capture = sound.capture;
  bypass = some;
  boundary = sound.boundary;
  cells = sound.cells;
  selects = λ l. there-with_stage (meaning d l).selected Bypass (meaning d l).fixed bits r some (sound.selects l);
}
sound-with_stage d Identification bits r some sound = record {
  stage = sound.stage;
  capture = sound.capture;
  bypass = sound.bypass;
  boundary = sound.boundary;
  cells = sound.cells;
  selects = λ l. there-with_stage (meaning d l).selected Identification (meaning d l).fixed bits r some (sound.selects l);
}
sound-with_stage d Boundary bits r some sound = record {
  stage = sound.stage;
  capture = sound.capture;
  bypass = sound.bypass;
  boundary = some;
  cells = sound.cells;
  selects = λ l. there-with_stage (meaning d l).selected Boundary (meaning d l).fixed bits r some (sound.selects l);
}
sound-with_stage d (User k) bits r some sound = record {
  stage = sound.stage;
  capture = sound.capture;
  bypass = sound.bypass;
  boundary = sound.boundary;
  cells = sound.cells;
  selects = λ l. there-with_stage (meaning d l).selected (User k) (meaning d l).fixed bits r some (sound.selects l);
}

-- other latch, stage and update: selection asks of every latch, so these keep it
there-other : (t : Selected) (fixed : Option (List Bool)) (latch stage update : List Bool) (r : Registers) → IsThere t fixed r
    → IsThere t fixed (record r { latch = latch; stage = stage; update = update })
there-other Bypass fixed latch stage update r there = tt
there-other Boundary fixed latch stage update r there = tt
there-other Identification fixed latch stage update r there = there
there-other (User k) fixed latch stage update r there = there

pub sound-other : (d : Device) (latch stage update : List Bool) (r : Registers) → HasBit stage → IsSoundFor d r
    → IsSoundFor d (record r { latch = latch; stage = stage; update = update })
sound-other d latch stage update r some sound = record {
  stage = some;
  capture = sound.capture;
  bypass = sound.bypass;
  boundary = sound.boundary;
  cells = sound.cells;
  selects = λ l. there-other (meaning d l).selected (meaning d l).fixed latch stage update r (sound.selects l);
}

pub sound-put : (d : Device) (column : Column) (bits : List Bool) (r : Registers) → HasBit bits → IsSoundFor d r → IsSoundFor d (put d column bits r)
sound-put d Ir bits r some sound = sound-other d r.latch bits r.update r some sound
sound-put d Dr bits r some sound = sound-with_stage d (meaning d r.latch).selected bits r some sound

capture-bit : (s : Selected) (fixed : Option (List Bool)) (seen : List Bool) (r : Registers) → HasBit seen → IsThere s fixed r → HasBit (capture_of s fixed seen r)
capture-bit Bypass fixed seen r some there = omega arith
capture-bit Identification fixed seen r some there = there.1
capture-bit Boundary fixed seen r some there = some
capture-bit (User k) fixed seen r some there = there.2 (user_latch k r.users) there.1

capture-has-bit : (sees : ℕ → Bool) (from_update : Bool) (update core : List Bool) (k : ℕ) (cs : List Cell)
    → 0 < length cs → HasBit (capture_by_sight sees from_update update core k cs)
capture-has-bit sees from_update update core k [] some = absurd (omega arith)
capture-has-bit sees from_update update core k (c ∷ cs) some = omega arith

pub sound-captured : (column : Column) (about : Told) (m : Member) → IsSoundFor m.device m.registers
    → IsSoundFor m.device (after_capture m.device column (surroundings about m) m.registers)
sound-captured Ir about m sound = sound-other m.device m.registers.latch m.device.capture m.registers.update m.registers sound.capture sound
sound-captured Dr about m sound =
    let me = meaning m.device m.registers.latch in
    sound-with_stage m.device me.selected _ m.registers
    (capture-bit me.selected me.fixed _ m.registers (capture-has-bit about.sight (takes_update m.extest_update me.mode) m.registers.update about.core 0 m.device.cells sound.cells) (sound.selects m.registers.latch))
    sound

pub Sound-capture_all : (column : Column) (about : ℕ → Told) (k : ℕ) (ms : List Member) → AllSound ms → AllSound (capture_all column about k ms)
Sound-capture_all column about k [] sound = tt
Sound-capture_all column about k (m ∷ ms) sound =
    (record { it = sound-captured column (about k) m sound.0.it }, Sound-capture_all column about (suc k) ms sound.1)

pub Sound-cut_back : (column : Column) (X : List Bool) (ms : List Member) → AllSound ms → length X ≡ length (joined_bits column ms) → AllSound (cut_back column X ms)
Sound-cut_back column X [] sound e = tt
Sound-cut_back column X (m ∷ ms) sound e =
    let n = length (selected_bits_of column m) in
    let some : HasBit (take n X) = subst (λ (l : ℕ). 0 < l) (sym (left-part column m ms X e)) (chosen-bit m.device column m.registers sound.0.it) in (
      record { it = sound-put m.device column (take n X) m.registers some sound.0.it },
      Sound-cut_back column (drop n X) ms sound.1 (right-part column m ms X e),
    )

user-updated-stage : (j k : ℕ) (us : List UserRegister) → user_stage j (user_updated k us) ≡ user_stage j us
user-updated-stage j k [] = refl
user-updated-stage zero zero (u ∷ us) = refl
user-updated-stage zero (suc k) (u ∷ us) = refl
user-updated-stage (suc j) zero (u ∷ us) = refl
user-updated-stage (suc j) (suc k) (u ∷ us) = user-updated-stage j k us

user-updated-latch : (j k : ℕ) (us : List UserRegister) → HasBit (user_stage j us) → HasBit (user_latch j us) → HasBit (user_latch j (user_updated k us))
user-updated-latch j k [] stage latch = latch
user-updated-latch zero zero (u ∷ us) stage latch = stage
user-updated-latch zero (suc k) (u ∷ us) stage latch = latch
user-updated-latch (suc j) zero (u ∷ us) stage latch = latch
user-updated-latch (suc j) (suc k) (u ∷ us) stage latch = user-updated-latch j k us stage latch

there-user : (t : Selected) (fixed : Option (List Bool)) (k : ℕ) (r : Registers) → IsThere t fixed r → IsThere t fixed (record r { users = user_updated k r.users })
there-user Bypass fixed k r there = tt
there-user Boundary fixed k r there = tt
there-user Identification fixed k r there = there
there-user (User j) fixed k r there =
    (subst (λ (l : List Bool). 0 < length l) (sym (user-updated-stage j k r.users)) there.0, user-updated-latch j k r.users there.0 there.1, there.2)

sound-update_selected : (d : Device) (s : Selected) (r : Registers) → IsSoundFor d r → IsSoundFor d (update_selected s r)
sound-update_selected d Boundary r sound = sound-other d r.latch r.stage r.boundary r sound.stage sound
sound-update_selected d (User k) r sound = record {
  stage = sound.stage;
  capture = sound.capture;
  bypass = sound.bypass;
  boundary = sound.boundary;
  cells = sound.cells;
  selects = λ l. there-user (meaning d l).selected (meaning d l).fixed k r (sound.selects l);
}
sound-update_selected d Bypass r sound = sound
sound-update_selected d Identification r sound = sound

pub sound-updated : (d : Device) (column : Column) (r : Registers) → IsSoundFor d r → IsSoundFor d (after_update d column r)
sound-updated d Ir r sound = sound-other d r.stage r.stage r.update r sound.stage sound
sound-updated d Dr r sound = sound-update_selected d (meaning d r.latch).selected r sound

pub Sound-update : (column : Column) (ms : List Member) → AllSound ms → AllSound (map (update_member column) ms)
Sound-update column [] sound = tt
Sound-update column (m ∷ ms) sound = (record { it = sound-updated m.device column m.registers sound.0.it }, Sound-update column ms sound.1)

pub Sound-reset : (ms : List Member) → AllSound ms → AllSound (map reset_member ms)
Sound-reset [] sound = tt
Sound-reset (m ∷ ms) sound = (record { it = sound-other m.device _ m.registers.stage _ m.registers sound.0.it.stage sound.0.it }, Sound-reset ms sound.1)
