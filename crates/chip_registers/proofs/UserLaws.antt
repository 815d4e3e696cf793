-- User registers by their place.
use Rattle.std.proofs.Common.{◌≡◌, ℕ, zero, suc, ◌<◌, List, [], ◌∷◌, Bool, length, get_or, set, drop, refl, sym, ap, subst, ◌∙◌, arith}
use Rattle.std.proofs.lemmas.List.{length-append, length-drop}
use Rattle.jt_bits.specs.Runs.{RunSet}
use Rattle.jt_bits.specs.Shifting.{after_shift}
use Rattle.chip_registers.specs.declared.users.UserRegister.{UserRegister}
use Rattle.chip_registers.specs.Registers.{user_stage, user_latch, with_user_stage, user_updated}

pub stage_at : (us : List UserRegister) (k : ℕ) (d : UserRegister) → k < length us → user_stage k us ≡ (get_or us k d).stage
stage_at [] k d h = absurd (omega arith)
stage_at (u ∷ us) zero d h = refl
stage_at (u ∷ us) (suc k) d h = stage_at us k d (omega arith)

pub latch_at : (us : List UserRegister) (k : ℕ) (d : UserRegister) → k < length us → user_latch k us ≡ (get_or us k d).latch
latch_at [] k d h = absurd (omega arith)
latch_at (u ∷ us) zero d h = refl
latch_at (u ∷ us) (suc k) d h = latch_at us k d (omega arith)

pub with_stage_at : (us : List UserRegister) (k : ℕ) (d : UserRegister) (bits : List Bool) → k < length us → set us k (record (get_or us k d) { stage = bits }) ≡ with_user_stage k bits us
with_stage_at [] k d bits h = absurd (omega arith)
with_stage_at (u ∷ us) zero d bits h = refl
with_stage_at (u ∷ us) (suc k) d bits h = ap (λ r. u ∷ r) (with_stage_at us k d bits (omega arith))

pub stage_put : (us : List UserRegister) (k : ℕ) (bits : List Bool) → k < length us → user_stage k (with_user_stage k bits us) ≡ bits
stage_put [] k bits h = absurd (omega arith)
stage_put (u ∷ us) zero bits h = refl
stage_put (u ∷ us) (suc k) bits h = stage_put us k bits (omega arith)

pub run_put : (us : List UserRegister) (k : ℕ) (d : UserRegister) (bits : List Bool) (at word n : ℕ) → k < length us → RunSet (get_or us k d).stage bits at word n
    → RunSet (user_stage k us) (user_stage k (set us k (record (get_or us k d) { stage = bits }))) at word n
run_put us k d bits at word n h put =
    let is : user_stage k (set us k (record (get_or us k d) { stage = bits })) ≡ bits = ap (user_stage k) (with_stage_at us k d bits h) ∙ stage_put us k bits h in
    subst (λ (old : List Bool). RunSet old (user_stage k (set us k (record (get_or us k d) { stage = bits }))) at word n) (sym (stage_at us k d h))
    (subst (λ (new : List Bool). RunSet (get_or us k d).stage new at word n) (sym is) put)

pub users_put : (us : List UserRegister) (k : ℕ) (d : UserRegister) (bits : List Bool) → k < length us
    → let new : List UserRegister = set us k (record (get_or us k d) { stage = bits }) in new ≡ with_user_stage k (user_stage k new) us
users_put us k d bits h =
    let is : user_stage k (set us k (record (get_or us k d) { stage = bits })) ≡ bits = ap (user_stage k) (with_stage_at us k d bits h) ∙ stage_put us k bits h in
    with_stage_at us k d bits h ∙ ap (λ (b : List Bool). with_user_stage k b us) (sym is)

pub updated_at : (us : List UserRegister) (k : ℕ) (d : UserRegister) → k < length us → set us k (record (get_or us k d) { latch = (get_or us k d).stage }) ≡ user_updated k us
updated_at [] k d h = absurd (omega arith)
updated_at (u ∷ us) zero d h = refl
updated_at (u ∷ us) (suc k) d h = ap (λ r. u ∷ r) (updated_at us k d (omega arith))

pub moved-length : (tdi : Bool) (bits : List Bool) → 0 < length bits → length (after_shift bits tdi) ≡ length bits
moved-length tdi bits h = length-append (drop 1 bits) (tdi ∷ []) ∙ omega (arith, length-drop 1 bits)
