-- What is put into the selected register is what it holds then, where it has the register's length.
use Rattle.std.proofs.Common.{◌≡◌, Bool, ℕ, zero, suc, List, [], ◌∷◌, length, refl, arith}
use Rattle.jt_tap.specs.declared.Column.{Column}
use Rattle.jt_tap.specs.declared.Column.TheVariants.{Dr, Ir}
use Rattle.chip_instructions.specs.declared.Selected.{Selected}
use Rattle.chip_instructions.specs.declared.Selected.TheVariants.{Bypass, Identification, Boundary, User}
use Rattle.chip_instructions.specs.Instruction.{meaning}
use Rattle.chip_registers.specs.declared.users.UserRegister.{UserRegister}
use Rattle.chip_registers.specs.Registers.{Registers, user_stage, with_user_stage, stage_of, with_stage}
use Rattle.board_model.specs.Cells.{Member}
use Rattle.board_model.specs.Whole.{selected_bits_of}
use Rattle.board_reasons.specs.Turned.{turned, turned_member}
use Rattle.board_reasons.proofs.Lists.{turned_long}

none_left : (bits : List Bool) → length bits ≡ 0 → [] ≡ bits
none_left [] long = refl
none_left (b ∷ bits) long = absurd (omega (arith, long))

user_put : (k : ℕ) (bits : List Bool) (us : List UserRegister) → length bits ≡ length (user_stage k us) → user_stage k (with_user_stage k bits us) ≡ bits
user_put k bits [] long = none_left bits long
user_put zero bits (u ∷ us) long = refl
user_put (suc k) bits (u ∷ us) long = user_put k bits us long

stage_put : (s : Selected) (bits : List Bool) (r : Registers) → length bits ≡ length (stage_of s r) → stage_of s (with_stage s bits r) ≡ bits
stage_put Bypass bits r long = refl
stage_put Identification bits r long = refl
stage_put Boundary bits r long = refl
stage_put (User k) bits r long = user_put k bits r.users long

-- no register but the selected one is touched, and the instruction least of all
latch_kept : (s : Selected) (bits : List Bool) (r : Registers) → (with_stage s bits r).latch ≡ r.latch
latch_kept Bypass bits r = refl
latch_kept Identification bits r = refl
latch_kept Boundary bits r = refl
latch_kept (User k) bits r = refl

pub selected_turned : (column : Column) (bit : ℕ) (m : Member) → selected_bits_of column (turned_member column bit m) ≡ turned bit (selected_bits_of column m)
selected_turned Ir bit m = refl
selected_turned Dr bit m =
    let s = (meaning m.device m.registers.latch).selected in
    let bits = turned bit (stage_of s m.registers) in
    rw (latch_kept s bits m.registers) (stage_put s bits m.registers (turned_long bit (stage_of s m.registers)))
