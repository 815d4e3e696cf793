-- The selected one of a device's data registers, and what keeps their lengths.
use Rattle.std.proofs.Common.{◌≡◌, ◌≢◌, ◌+◌, ◌-◌, ◌*◌, ◌/◌, ◌%◌, ◌^◌, ◌==◌, ◌||◌, nat_eq, if◌then◌else◌, ◌++◌, take, drop, get_or, ◌<◌, ◌≤◌, ℕ, zero, suc, true, List, [], ◌∷◌, Bool, false, length, map, slice_get, Option, Some, None, unwrap_or, refl, sym, ap, subst, ◌∙◌, arith}
use mir.Val.{bool_byte}
use Rattle.std.specs.Int.{bit_at}
use Rattle.std.specs.Int.Bits.{bit_and, bit_or}
use Rattle.std.proofs.lemmas.List.{get_or-take, get_or-drop, length-take, length-drop, length-append}
use Rattle.std.proofs.lemmas.Nat.Bits.{bit_at-zero, bit_at_lowest, bit_at-suc}
use Rattle.jt_bits.specs.Packed.{has_bit}
use Rattle.jt_bits.specs.Runs.{RunSet}
use Rattle.jt_bits.specs.Shifting.{after_shift}
use Rattle.jt_bits.specs.Words.{bit_of, word_bits}
use Rattle.jt_bits.proofs.PackedWords.{or_bit, shl_low, shl_high, bit_read}
use Rattle.jt_bits.proofs.Runs.{same_list}
use Rattle.jt_bits.proofs.WordShifts.{length-word, get-word}
use Rattle.chip_instructions.specs.declared.Selected.{Selected}
use Rattle.chip_instructions.specs.declared.Selected.TheVariants.{User}
use Rattle.chip_registers.specs.declared.users.UserRegister.{UserRegister}
use Rattle.chip_registers.specs.Data.{Lengths, IsThere, FixedFits}
use Rattle.chip_registers.specs.Registers.{user_stage, user_latch, with_user_stage, user_updated}
use Rattle.chip_registers.specs.Users.{HasUser}
use Rattle.chip_registers.proofs.UserLaws.{moved-length}

-- the lengths of user registers
abbrev pub lens : List UserRegister → List (ℕ × ℕ)
lens us = map (λ u. (length u.stage, length u.latch)) us

pair_of : (a b : ℕ × ℕ) → Some a ≡ Some b → a ≡ b
pair_of a b e = cc

nothing : (k : ℕ) (p : ℕ × ℕ) → slice_get {X = ℕ × ℕ} [] k ≡ Some p → ⊥
nothing zero p e = cc
nothing (suc k) p e = cc

has_user : (us : List UserRegister) (k n : ℕ) → slice_get (lens us) k ≡ Some (n, n) → 0 < n → HasUser us k
has_user [] k n e some = absurd (nothing k (n, n) e)
has_user (u ∷ us) zero n e some =
    let both = pair_of (length u.stage, length u.latch) (n, n) e in
    let stage : length u.stage ≡ n = ap (λ (p : ℕ × ℕ). p.0) both in
    let latch : length u.latch ≡ n = ap (λ (p : ℕ × ℕ). p.1) both in
    record { there = omega arith; some = omega (arith, stage, some); same = stage ∙ sym latch }
has_user (u ∷ us) (suc k) n e some =
    let f = has_user us k n e some in
    record { there = omega (arith, f.there); some = f.some; same = f.same }

stage_is : (us : List UserRegister) (k n m : ℕ) → slice_get (lens us) k ≡ Some (n, m) → length (user_stage k us) ≡ n
stage_is [] k n m e = absurd (nothing k (n, m) e)
stage_is (u ∷ us) zero n m e = ap (λ (p : ℕ × ℕ). p.0) (pair_of (length u.stage, length u.latch) (n, m) e)
stage_is (u ∷ us) (suc k) n m e = stage_is us k n m e

put_lens : (us : List UserRegister) (k : ℕ) (bits : List Bool) → length bits ≡ length (user_stage k us) → lens (with_user_stage k bits us) ≡ lens us
put_lens [] k bits long = refl
put_lens (u ∷ us) zero bits long = ap (λ (n : ℕ). (n, length u.latch) ∷ lens us) long
put_lens (u ∷ us) (suc k) bits long = ap (λ (r : List (ℕ × ℕ)). (length u.stage, length u.latch) ∷ r) (put_lens us k bits long)

updated_lens : (us : List UserRegister) (k : ℕ) → length (user_stage k us) ≡ length (user_latch k us) → lens (user_updated k us) ≡ lens us
updated_lens [] k same = refl
updated_lens (u ∷ us) zero same = ap (λ (n : ℕ). (length u.stage, n) ∷ lens us) same
updated_lens (u ∷ us) (suc k) same = ap (λ (r : List (ℕ × ℕ)). (length u.stage, length u.latch) ∷ r) (updated_lens us k same)

-- the selected user register is there
pub selected_there : (l : Lengths) (s : Selected) (k : ℕ) (us lent : List UserRegister) → IsThere l s → s ≡ User k → l.users ≡ lens us → lent ≡ us → HasUser lent k
selected_there l s k us lent there is lengths same =
    let t = subst (λ (x : Selected). IsThere l x) is there in
    subst (λ (xs : List UserRegister). HasUser xs k) (sym same) (has_user us k t.0 (ap (λ (r : List (ℕ × ℕ)). slice_get r k) (sym lengths) ∙ t.1) t.2)

-- what it is fixed to capture has its length
pub fixed_long : (l : Lengths) (s : Selected) (k : ℕ) (us lent : List UserRegister) (fixed : Option (List Bool)) → FixedFits l s fixed → s ≡ User k → l.users ≡ lens us → lent ≡ us
    → (b : List Bool) → fixed ≡ Some b → length b ≡ length (user_stage k lent)
fixed_long l s k us lent fixed fits is lengths same b e =
    let f = subst (λ (x : Selected). FixedFits l x fixed) is fits in
    sym (stage_is us k (length b) (length b) (ap (λ (r : List (ℕ × ℕ)). slice_get r k) (sym lengths) ∙ f b e)) ∙ ap (λ (xs : List UserRegister). length (user_stage k xs)) (sym same)

either_long : (o : Option (List Bool)) (other : List Bool) (n : ℕ) → ((b : List Bool) → o ≡ Some b → length b ≡ n) → length other ≡ n → length (unwrap_or o other) ≡ n
either_long None other n h long = long
either_long (Some b) other n h long = h b refl

-- a capture keeps the lengths
pub captured_lens : (k : ℕ) (us lent new after : List UserRegister) (fixed : Option (List Bool)) → HasUser lent k → ((b : List Bool) → fixed ≡ Some b → length b ≡ length (user_stage k lent)) → lent ≡ us
    → new ≡ with_user_stage k (unwrap_or fixed (user_latch k lent)) lent → after ≡ new → lens after ≡ lens us
captured_lens k us lent new after fixed fit long same captured stored =
    ap lens (stored ∙ captured)
    ∙ put_lens lent k (unwrap_or fixed (user_latch k lent)) (either_long fixed (user_latch k lent) (length (user_stage k lent)) long (sym fit.same))
    ∙ ap lens same

-- so does a shift
pub shifted_lens : (k : ℕ) (us lent new after : List UserRegister) (tdi : Bool) → HasUser lent k → lent ≡ us → new ≡ with_user_stage k (after_shift (user_stage k lent) tdi) lent → after ≡ new → lens after ≡ lens us
shifted_lens k us lent new after tdi fit same shifted stored =
    ap lens (stored ∙ shifted) ∙ put_lens lent k (after_shift (user_stage k lent) tdi) (moved-length tdi (user_stage k lent) fit.some) ∙ ap lens same

pub updated_users_lens : (k : ℕ) (us lent new after : List UserRegister) → HasUser lent k → lent ≡ us → new ≡ user_updated k lent → after ≡ new → lens after ≡ lens us
updated_users_lens k us lent new after fit same updated stored = ap lens (stored ∙ updated) ∙ updated_lens lent k fit.same ∙ ap lens same

pub run_lens : (k : ℕ) (us lent new after : List UserRegister) (at word n : ℕ) → lent ≡ us → new ≡ with_user_stage k (user_stage k new) lent → RunSet (user_stage k lent) (user_stage k new) at word n → after ≡ new
    → lens after ≡ lens us
run_lens k us lent new after at word n same put run stored = ap lens (stored ∙ put) ∙ put_lens lent k (user_stage k new) run.long ∙ ap lens same

-- ---- the one bit of bypass, as a word

zero_bits : (j : ℕ) → has_bit 0 j ≡ false
unfolding has_bit
zero_bits j = ap (λ (n : ℕ). n == 1) (bit_at-zero j)

one_bit : (j : ℕ) → has_bit 1 j ≡ bit_of (true ∷ []) j
unfolding has_bit
one_bit zero = ap (λ (n : ℕ). n == 1) (bit_at_lowest 1)
one_bit (suc j) = ap (λ (n : ℕ). n == 1) (bit_at-suc 1 j ∙ bit_at-zero j)

pub bypass_one : (bypass : Bool) (i j : ℕ) → i ≡ 0 → bypass ≡ true → has_bit 1 j ≡ bit_of (bypass ∷ []) (i + j)
bypass_one bypass i j first is =
    let e : i + j ≡ j = omega arith in
    one_bit j ∙ ap (λ (b : Bool). bit_of (b ∷ []) j) (sym is) ∙ ap (bit_of (bypass ∷ [])) (sym e)

pub bypass_past : (bypass : Bool) (i j : ℕ) → i ≢ 0 → has_bit 0 j ≡ bit_of (bypass ∷ []) (i + j)
bypass_past bypass i j later =
    let e : suc (i + j - 1) ≡ i + j = omega arith in
    zero_bits j ∙ ap (bit_of (bypass ∷ [])) e

pub bypass_zero : (bypass : Bool) (i j : ℕ) → bypass ≡ false → has_bit 0 j ≡ bit_of (bypass ∷ []) (i + j)
bypass_zero bypass i j is = zero_bits j ∙ sym (none (i + j)) ∙ ap (λ (b : Bool). bit_of (b ∷ []) (i + j)) (sym is)
  where
    none : (m : ℕ) → bit_of (false ∷ []) m ≡ false
    none zero = refl
    none (suc m) = refl

pub bypass_put : (old new : Bool) (at bits n : ℕ) → 0 < n → at + n ≤ 1 → new ≡ (bits % 2 == 1) → RunSet (old ∷ []) (new ∷ []) at bits n
unfolding has_bit
bypass_put old new at bits n some inside is = record {
  long = refl;
  here = λ j h.
      let place : at + j ≡ 0 = omega arith in
      let first : 0 ≡ j = omega arith in
      ap (bit_of (new ∷ [])) place ∙ is ∙ ap (λ (k : ℕ). k == 1) (sym (bit_at_lowest bits) ∙ ap (bit_at bits) first);
  below = λ i h. absurd (omega arith);
  above = λ i h low. absurd (omega arith);
}

-- ---- many bits at once

-- what moves keeps its length
pub word_moved : (bits : List Bool) (word n : ℕ) → length (drop n (bits ++ word_bits word n)) ≡ length bits
word_moved bits word n = omega (arith, length-drop n (bits ++ word_bits word n), length-append bits (word_bits word n), length-word word n)

-- so do the lengths of user registers
pub words_lens : (k : ℕ) (us lent new after : List UserRegister) (word n : ℕ) → lent ≡ us → new ≡ with_user_stage k (drop n (user_stage k lent ++ word_bits word n)) lent → after ≡ new → lens after ≡ lens us
words_lens k us lent new after word n same shifted stored =
    ap lens (stored ∙ shifted) ∙ put_lens lent k (drop n (user_stage k lent ++ word_bits word n)) (word_moved (user_stage k lent) word n) ∙ ap lens same

bit_above : (b : Bool) (j : ℕ) → has_bit (if b then 1 else 0) (suc j) ≡ false
unfolding has_bit
bit_above true j = ap (λ (n : ℕ). n == 1) (bit_at-suc 1 j ∙ bit_at-zero j)
bit_above false j = ap (λ (n : ℕ). n == 1) (bit_at-zero (suc j))

lowest_bit : (b : Bool) → has_bit (if b then 1 else 0) 0 ≡ b
unfolding has_bit
lowest_bit true = refl
lowest_bit false = refl

out_as : (b : Bool) (word n : ℕ) → n ≤ 64 → word_bits (bit_or (word * 2 ^ 1 % 2 ^ 64) (if b then 1 else 0)) n ≡ take n (b ∷ word_bits word n)
out_as b word n few =
    let out = bit_or (word * 2 ^ 1 % 2 ^ 64) (if b then 1 else 0) in
    let cut = length-take n (b ∷ word_bits word n) in
    same_list (word_bits out n) (take n (b ∷ word_bits word n)) (length-word out n ∙ omega (arith, cut, length-word word n))
    (λ i h.
    let less : i < n = omega (arith, h, cut) in
    get-word out n i less ∙ or_bit (word * 2 ^ 1 % 2 ^ 64) (if b then 1 else 0) i ∙ each i less
    ∙ sym (get_or-take n (b ∷ word_bits word n) i false less))
  where
    or_false : (x : Bool) → (x || false) ≡ x
    or_false true = refl
    or_false false = refl

    each : (i : ℕ) → i < n → (has_bit (word * 2 ^ 1 % 2 ^ 64) i || has_bit (if b then 1 else 0) i) ≡ get_or (b ∷ word_bits word n) i false
    each zero less = ap (λ (x : Bool). x || has_bit (if b then 1 else 0) 0) (shl_low word 1 0 (omega arith) (omega arith)) ∙ lowest_bit b
    each (suc i) less =
        let back : suc i - 1 ≡ i = omega arith in
        ap (λ (x : Bool). has_bit (word * 2 ^ 1 % 2 ^ 64) (suc i) || x) (bit_above b i) ∙ or_false (has_bit (word * 2 ^ 1 % 2 ^ 64) (suc i))
        ∙ shl_high word 1 (suc i) (omega arith) (omega arith) ∙ ap (has_bit word) back ∙ sym (get-word word n i (omega arith))

-- what leaves a bypass register, a word behind it
pub bypass_out : (b : Bool) (word from n : ℕ) → n ≤ 64 → from ≡ bool_byte b → word_bits (bit_or (word * 2 % 2 ^ 64) from) n ≡ take n (b ∷ word_bits word n)
bypass_out b word from n few is =
    let one : word * 2 ≡ word * 2 ^ 1 = omega arith in
    ap (λ (w : ℕ). word_bits (bit_or (w % 2 ^ 64) from) n) one ∙ ap (λ (f : ℕ). word_bits (bit_or (word * 2 ^ 1 % 2 ^ 64) f) n) (is ∙ byte b) ∙ out_as b word n few
  where
    byte : (b : Bool) → bool_byte b ≡ if b then 1 else 0
    byte true = refl
    byte false = refl

-- what it holds then
pub bypass_holds : (b : Bool) (word n : ℕ) → 0 < n → nat_eq (bit_and (word / 2 ^ (n - 1)) 1) 1 ∷ [] ≡ drop n (b ∷ word_bits word n)
bypass_holds b word n some =
    let bit = nat_eq (bit_and (word / 2 ^ (n - 1)) 1) 1 in
    let cut = length-drop n (b ∷ word_bits word n) in
    let end : suc (n - 1) ≡ n = omega arith in
    same_list (bit ∷ []) (drop n (b ∷ word_bits word n)) (omega (arith, cut, length-word word n))
    (λ i h.
    let first : 0 ≡ i = omega (arith, h, cut, length-word word n) in
    ap (λ (k : ℕ). get_or (bit ∷ []) k false) (sym first) ∙ bit_read word (n - 1) ∙ sym (get-word word n (n - 1) (omega arith))
    ∙ ap (λ (k : ℕ). get_or (b ∷ word_bits word n) k false) end
    ∙ sym (get_or-drop n (b ∷ word_bits word n) 0 false ∙ ap (λ (k : ℕ). get_or (b ∷ word_bits word n) k false) (omega arith))
    ∙ ap (λ (k : ℕ). get_or (drop n (b ∷ word_bits word n)) k false) first)
