-- The laws of a put: what a chip has already changes nothing, and of two puts the second holds. These proof terms stand
-- here since `impl Link` names them: there is nothing to judge.
use Rattle.std.specs.Prelude.{◌≡◌, ℕ, zero, suc, Bool, List, [], ◌∷◌, refl}
use Rattle.std.proofs.Common.{sym, ap, ◌∙◌}
use Rattle.jt_tap.specs.declared.Column.{Column}
use Rattle.jt_tap.specs.declared.Column.TheVariants.{Dr, Ir}
use Rattle.chip_instructions.specs.Device.{Device}
use Rattle.chip_instructions.specs.declared.Selected.{Selected}
use Rattle.chip_instructions.specs.declared.Selected.TheVariants.{Bypass, Identification, Boundary, User}
use Rattle.chip_registers.specs.declared.users.UserRegister.{UserRegister}
use Rattle.chip_instructions.specs.Instruction.{meaning}
use Rattle.chip_registers.specs.Registers.{Registers, selected_bits, put, stage_of, with_stage, user_stage}
use Rattle.chip_registers.specs.Registers.{with_user_stage}
use Rattle.scan_registers.specs.Edges.{OneChip}
use Rattle.scan_registers.specs.Chips.{ChipValue, IsPut, one_chip, registers, with_registers}

users_same : (k : ℕ) (us : List UserRegister) → with_user_stage k (user_stage k us) us ≡ us
users_same k [] = refl
users_same zero (u ∷ us) = refl
users_same (suc k) (u ∷ us) = ap (λ (r : List UserRegister). u ∷ r) (users_same k us)

users_twice : (k : ℕ) (s t : List Bool) (us : List UserRegister)
    → with_user_stage k t (with_user_stage k s us) ≡ with_user_stage k t us
users_twice k s t [] = refl
users_twice zero s t (u ∷ us) = refl
users_twice (suc k) s t (u ∷ us) = ap (λ (r : List UserRegister). u ∷ r) (users_twice k s t us)

stage_same : (selected : Selected) (r : Registers) → with_stage selected (stage_of selected r) r ≡ r
stage_same Bypass r = refl
stage_same Identification r = refl
stage_same Boundary r = refl
stage_same (User k) r = ap (λ (us : List UserRegister). record r { users = us }) (users_same k r.users)

stage_twice : (selected : Selected) (s t : List Bool) (r : Registers)
    → with_stage selected t (with_stage selected s r) ≡ with_stage selected t r
stage_twice Bypass s t r = refl
stage_twice Identification s t r = refl
stage_twice Boundary s t r = refl
stage_twice (User k) s t r = ap (λ (us : List UserRegister). record r { users = us }) (users_twice k s t r.users)

latch_kept : (selected : Selected) (s : List Bool) (r : Registers) → (with_stage selected s r).latch ≡ r.latch
latch_kept Bypass s r = refl
latch_kept Identification s r = refl
latch_kept Boundary s r = refl
latch_kept (User k) s r = refl

pub put_same : (d : Device) (column : Column) (r : Registers) → put d column (selected_bits d column r) r ≡ r
put_same d Ir r = refl
put_same d Dr r = stage_same (meaning d r.latch).selected r

pub put_again : (d : Device) (column : Column) (s t : List Bool) (r : Registers)
    → put d column t (put d column s r) ≡ put d column t r
put_again d Ir s t r = refl
put_again d Dr s t r =
    let selected = (meaning d r.latch).selected in
    ap (λ (latch : List Bool). with_stage (meaning d latch).selected t (with_stage selected s r))
    (latch_kept selected s r)
    ∙ stage_twice selected s t r

pub put_nothing : {B : Type 0} (stage update : B → List Bool) (with_parts : B → List Bool → List Bool → B)
    → ((b : B) → with_parts b (stage b) (update b) ≡ b)
    → (c : ChipValue B) (column : Column)
    → IsPut stage update with_parts column (selected_bits c.device column (registers stage update c)) c c
put_nothing stage update with_parts same c column = record {
  chip = ap (λ (r : Registers). with_registers r (one_chip stage update c))
      (sym (put_same c.device column (registers stage update c)));
  boundary = sym (same c.boundary);
}

pub put_both : {B : Type 0} (stage update : B → List Bool) (with_parts : B → List Bool → List Bool → B)
    → ((b : B) (s u t v : List Bool) → with_parts (with_parts b s u) t v ≡ with_parts b t v)
    → (a b c : ChipValue B) (column : Column) (s t : List Bool) → IsPut stage update with_parts column s a b
    → IsPut stage update with_parts column t b c → IsPut stage update with_parts column t a c
put_both stage update with_parts twice a b c column s t first second = record {
  chip = second.chip
      ∙ ap (λ (x : OneChip). with_registers (put x.device column t x.registers) x) first.chip
      ∙ ap (λ (r : Registers). with_registers r (one_chip stage update a))
      (put_again a.device column s t (registers stage update a));
  boundary = second.boundary
      ∙ ap (λ x. with_parts x (stage c.boundary) (update c.boundary)) first.boundary
      ∙ twice a.boundary (stage b.boundary) (update b.boundary) (stage c.boundary) (update c.boundary);
}
