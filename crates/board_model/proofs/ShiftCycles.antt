-- One cycle of a chain that shifts: the joined list moves on by one, and nothing else changes.
use Rattle.std.proofs.Common.{◌≡◌, Bool, true, false, ℕ, zero, suc, ◌<◌, List, [], ◌∷◌, ◌++◌, length, take, drop, refl, sym, ap, ◌∙◌, map, subst, append_assoc, arith, length-append, length-drop, take-append-drop}
use Rattle.jt_tap.specs.declared.Column.{Column}
use Rattle.jt_tap.specs.declared.Column.TheVariants.{Dr, Ir}
use Rattle.jt_tap.specs.Controller.{next}
use Rattle.bsdl_device.specs.Device.{Device}
use Rattle.chip_instructions.specs.declared.Selected.{Selected}
use Rattle.chip_instructions.specs.declared.Selected.TheVariants.{Bypass, Identification, Boundary, User}
use Rattle.chip_instructions.specs.Instruction.{meaning}
use Rattle.boundary.specs.Registers.{Registers, selected_bits, put, stage_of, with_stage, user_stage, with_user_stage}
use Rattle.boundary.specs.UserRegister.{UserRegister}
use Rattle.pin_nets.specs.Wired.{Net}
use Rattle.board_model.specs.Cells.{Member}
use Rattle.board_model.specs.Nets.{told}
use Rattle.board_model.specs.Whole.{selected_bits_of, joined_bits, cut_back}
use Rattle.board_model.proofs.OneCycle.{given, cycled, fallen_one}
use Rattle.board_model.proofs.Shift.{shift_state, Full, given-joined, left-part, right-part, shift-one}

user-put : (k : ℕ) (bits : List Bool) (us : List UserRegister) → 0 < length (user_stage k us) → user_stage k (with_user_stage k bits us) ≡ bits
user-put k bits [] full = absurd (omega arith)
user-put zero bits (u ∷ us) full = refl
user-put (suc k) bits (u ∷ us) full = user-put k bits us full

user-put-put : (k : ℕ) (a b : List Bool) (us : List UserRegister) → with_user_stage k b (with_user_stage k a us) ≡ with_user_stage k b us
user-put-put k a b [] = refl
user-put-put zero a b (u ∷ us) = refl
user-put-put (suc k) a b (u ∷ us) = ap (λ r. u ∷ r) (user-put-put k a b us)

latch-with_stage : (s : Selected) (bits : List Bool) (r : Registers) → (with_stage s bits r).latch ≡ r.latch
latch-with_stage Bypass bits r = refl
latch-with_stage Identification bits r = refl
latch-with_stage Boundary bits r = refl
latch-with_stage (User k) bits r = refl

stage-with_stage : (s : Selected) (bits : List Bool) (r : Registers) → 0 < length (stage_of s r) → stage_of s (with_stage s bits r) ≡ bits
stage-with_stage Bypass bits r full = refl
stage-with_stage Identification bits r full = refl
stage-with_stage Boundary bits r full = refl
stage-with_stage (User k) bits r full = user-put k bits r.users full

with_stage-twice : (s : Selected) (a b : List Bool) (r : Registers) → with_stage s b (with_stage s a r) ≡ with_stage s b r
with_stage-twice Bypass a b r = refl
with_stage-twice Identification a b r = refl
with_stage-twice Boundary a b r = refl
with_stage-twice (User k) a b r = λ i. record r { users = user-put-put k a b r.users i }

pub chosen-put : (d : Device) (column : Column) (bits : List Bool) (r : Registers) → 0 < length (selected_bits d column r) → selected_bits d column (put d column bits r) ≡ bits
chosen-put d Ir bits r full = refl
chosen-put d Dr bits r full =
    let s = (meaning d r.latch).selected in
    ap (λ l. stage_of (meaning d l).selected (with_stage s bits r)) (latch-with_stage s bits r) ∙ stage-with_stage s bits r full

pub put-put : (d : Device) (column : Column) (a b : List Bool) (r : Registers) → put d column b (put d column a r) ≡ put d column b r
put-put d Ir a b r = refl
put-put d Dr a b r =
    let s = (meaning d r.latch).selected in
    ap (λ l. with_stage (meaning d l).selected b (with_stage s a r)) (latch-with_stage s a r) ∙ with_stage-twice s a b r

no-length : (X : List Bool) → length X ≡ 0 → X ≡ []
no-length [] e = refl
no-length (x ∷ xs) e = absurd (omega arith)

pub joined-cut_back : (column : Column) (X : List Bool) (ms : List Member) → Full column ms → length X ≡ length (joined_bits column ms)
    → joined_bits column (cut_back column X ms) ≡ X
joined-cut_back column X [] full e = sym (no-length X e)
joined-cut_back column X (m ∷ ms) full e =
    let n = length (selected_bits_of column m) in
    (λ i. chosen-put m.device column (take n X) m.registers full.0 i
    ++ joined-cut_back column (drop n X) ms full.1 (right-part column m ms X e) i)
    ∙ take-append-drop n X

pub cut_back-cut_back : (column : Column) (X Y : List Bool) (ms : List Member) → Full column ms → length X ≡ length (joined_bits column ms)
    → cut_back column Y (cut_back column X ms) ≡ cut_back column Y ms
cut_back-cut_back column X Y [] full e = refl
cut_back-cut_back column X Y (m ∷ ms) full e =
    let n = length (selected_bits_of column m) in
    let same : length (selected_bits m.device column (put m.device column (take n X) m.registers)) ≡ n =
    ap length (chosen-put m.device column (take n X) m.registers full.0) ∙ left-part column m ms X e in
    (λ i. record m { registers = put m.device column (take (same i) Y) (put m.device column (take n X) m.registers) }
    ∷ cut_back column (drop (same i) Y) (cut_back column (drop n X) ms))
    ∙ (λ i. record m { registers = put-put m.device column (take n X) (take n Y) m.registers i }
    ∷ cut_back-cut_back column (drop n X) (drop n Y) ms full.1 (right-part column m ms X e) i)

pub Full-cut_back : (column : Column) (X : List Bool) (ms : List Member) → Full column ms → length X ≡ length (joined_bits column ms)
    → Full column (cut_back column X ms)
Full-cut_back column X [] full e = tt
Full-cut_back column X (m ∷ ms) full e =
    let n = length (selected_bits_of column m) in
    let same : length (selected_bits m.device column (put m.device column (take n X) m.registers)) ≡ n =
    ap length (chosen-put m.device column (take n X) m.registers full.0) ∙ left-part column m ms X e in
    (subst (λ (l : ℕ). 0 < l) (sym same) full.0, Full-cut_back column (drop n X) ms full.1 (right-part column m ms X e))

pub count-cut_back : (column : Column) (bits : List Bool) (ms : List Member) → length (cut_back column bits ms) ≡ length ms
count-cut_back column bits [] = refl
count-cut_back column bits (m ∷ ms) = ap (λ n. suc n) (count-cut_back column (drop (length (selected_bits_of column m)) bits) ms)

-- no falling edge between two shifts, or after the last, touches a register
fallen-quiet : (column : Column) (tms : Bool) (ms : List Member) → map (fallen_one (next (shift_state column) tms)) ms ≡ ms
fallen-quiet Dr true [] = refl
fallen-quiet Dr false [] = refl
fallen-quiet Ir true [] = refl
fallen-quiet Ir false [] = refl
fallen-quiet Dr true (m ∷ ms) = ap (λ r. m ∷ r) (fallen-quiet Dr true ms)
fallen-quiet Dr false (m ∷ ms) = ap (λ r. m ∷ r) (fallen-quiet Dr false ms)
fallen-quiet Ir true (m ∷ ms) = ap (λ r. m ∷ r) (fallen-quiet Ir true ms)
fallen-quiet Ir false (m ∷ ms) = ap (λ r. m ∷ r) (fallen-quiet Ir false ms)

pub stays : (column : Column) → next (shift_state column) false ≡ shift_state column
stays Dr = refl
stays Ir = refl

-- The shift cycle: with every device in Shift and each TDO latched, one low and high byte move the joined list by one.
pub cycled-shift : (column : Column) (tms tdi : Bool) (nets : List Net) (ms : List Member) → Full column ms
    → cycled (shift_state column) tms tdi nets ms ≡ cut_back column (drop 1 (joined_bits column ms ++ tdi ∷ [])) ms
cycled-shift column tms tdi nets ms full = fallen-quiet column tms _ ∙ shift-one column tdi (told nets ms) 0 ms full

-- one place on: what is left of the joined list and the bit shifted in
abbrev pub moved_line : Column → Bool → List Member → List Bool
moved_line column tdi ms = drop 1 (joined_bits column ms ++ tdi ∷ [])

pub length-moved_line : (column : Column) (tdi : Bool) (ms : List Member) → length (moved_line column tdi ms) ≡ length (joined_bits column ms)
length-moved_line column tdi ms =
    let J = joined_bits column ms in
    omega (arith, length-drop 1 (J ++ tdi ∷ []), length-append J (tdi ∷ []))

pub begins : (column : Column) (t : Bool) (ts : List Bool) (m : Member) (ms : List Member) → Full column (m ∷ ms)
    → given (shift_state column) true (m ∷ ms) ∷ (moved_line column t (m ∷ ms) ++ ts) ≡ joined_bits column (m ∷ ms) ++ t ∷ ts
begins column t ts m ms full =
    ap (λ r. r ++ ts) (given-joined column t (m ∷ ms) full) ∙ append_assoc (joined_bits column (m ∷ ms)) (t ∷ []) ts
