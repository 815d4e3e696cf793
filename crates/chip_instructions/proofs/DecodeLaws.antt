-- Decoding, one element of a list after another.
use Rattle.std.proofs.Common.{◌≡◌, ◌≢◌, ℕ, suc, ◌+◌, ◌<◌, Bool, true, false, not, ◌&&◌, List, [], ◌∷◌, length, drop, get_or, map, slice_get, Option, Some, None, if◌then◌else◌, refl, sym, ap, ◌∙◌, arith}
use mathlib.Core.Bool.{beq}
use Rattle.std.specs.List.{find}
use Rattle.std.proofs.lemmas.Option.{slice_get-get_or}
use Rattle.std.specs.Prelude.{bytes_eq}
use Rattle.std.proofs.Math.Seq.{drop-cons}
use Rattle.bsdl_device.specs.Device.{Name, Access, Opcode, Device, Pattern}
use Rattle.std.specs.Prelude.{option_map, option_and_then}
use Rattle.bsdl_device.specs.declared.Place.TheVariants.{AtUser}
use Rattle.chip_instructions.specs.declared.Selected.TheVariants.{User}
use Rattle.chip_instructions.specs.Fitting.{FitsAt, IsFormed, access_at}
use Rattle.bsdl_device.specs.Opcodes.{matches}
use Rattle.chip_instructions.specs.Instruction.{Meaning, look_up, access_meaning}

pub matches_length : (p : Pattern) (bits : List Bool) → length p ≢ length bits → matches p bits ≡ false
matches_length [] [] h = absurd (h refl)
matches_length [] (b ∷ bits) h = refl
matches_length (None ∷ p) [] h = refl
matches_length (Some true ∷ p) [] h = refl
matches_length (Some false ∷ p) [] h = refl
matches_length (None ∷ p) (b ∷ bits) h = matches_length p bits (λ e. h (omega arith))
matches_length (Some true ∷ p) (true ∷ bits) h = matches_length p bits (λ e. h (omega arith))
matches_length (Some true ∷ p) (false ∷ bits) h = refl
matches_length (Some false ∷ p) (true ∷ bits) h = refl
matches_length (Some false ∷ p) (false ∷ bits) h = matches_length p bits (λ e. h (omega arith))

-- the digit at a place against the bit there
abbrev at_digit : Option Bool → Bool → Bool → Bool
at_digit None b rest = rest
at_digit (Some true) b rest = b && rest
at_digit (Some false) b rest = not b && rest

by_digit : (d : Option Bool) (b : Bool) (p : Pattern) (bits : List Bool) → matches (d ∷ p) (b ∷ bits) ≡ at_digit d b (matches p bits)
by_digit None b p bits = refl
by_digit (Some true) b p bits = refl
by_digit (Some false) b p bits = refl

matches_at : (p : Pattern) (bits : List Bool) (i : ℕ) (d : Option Bool) (e : Bool) → i < length p → i < length bits
    → matches (drop i p) (drop i bits) ≡ at_digit (get_or p i d) (get_or bits i e) (matches (drop (i + 1) p) (drop (i + 1) bits))
matches_at p bits i d e h k =
    let next : i + 1 ≡ suc i = omega arith in
    ap (λ (q : Pattern). matches q (drop i bits)) (drop-cons p i d h)
    ∙ ap (matches (get_or p i d ∷ drop (suc i) p)) (drop-cons bits i e k)
    ∙ by_digit (get_or p i d) (get_or bits i e) (drop (suc i) p) (drop (suc i) bits)
    ∙ ap (λ n. at_digit (get_or p i d) (get_or bits i e) (matches (drop n p) (drop n bits))) (sym next)

false_is_not : false ≡ true → ⊥
false_is_not e = cc

true_is_not : true ≡ false → ⊥
true_is_not e = cc

other_digit : (wanted b rest : Bool) → not (beq b wanted) ≡ true → at_digit (Some wanted) b rest ≡ false
other_digit true true rest h = absurd (false_is_not h)
other_digit true false rest h = refl
other_digit false true rest h = refl
other_digit false false rest h = absurd (false_is_not h)

same_digit : (wanted b rest : Bool) → not (beq b wanted) ≡ false → at_digit (Some wanted) b rest ≡ rest
same_digit true true rest h = refl
same_digit true false rest h = absurd (true_is_not h)
same_digit false true rest h = absurd (true_is_not h)
same_digit false false rest h = refl

pub digit_differs : (p : Pattern) (bits : List Bool) (i : ℕ) (d : Option Bool) (wanted b : Bool) → i < length p → i < length bits → matches p bits ≡ matches (drop i p) (drop i bits)
    → get_or p i d ≡ Some wanted → get_or bits i b ≡ b → not (beq b wanted) ≡ true → false ≡ matches p bits
digit_differs p bits i d wanted b h k so_far digit bit apart =
    sym (so_far ∙ matches_at p bits i d b h k
    ∙ ap (λ (o : Option Bool). at_digit o (get_or bits i b) (matches (drop (i + 1) p) (drop (i + 1) bits))) digit
    ∙ ap (λ (x : Bool). at_digit (Some wanted) x (matches (drop (i + 1) p) (drop (i + 1) bits))) bit
    ∙ other_digit wanted b (matches (drop (i + 1) p) (drop (i + 1) bits)) apart)

pub digit_same : (p : Pattern) (bits : List Bool) (i : ℕ) (d : Option Bool) (wanted b : Bool) → i < length p → i < length bits → matches p bits ≡ matches (drop i p) (drop i bits)
    → get_or p i d ≡ Some wanted → get_or bits i b ≡ b → not (beq b wanted) ≡ false → matches p bits ≡ matches (drop (i + 1) p) (drop (i + 1) bits)
digit_same p bits i d wanted b h k so_far digit bit same =
    so_far ∙ matches_at p bits i d b h k
    ∙ ap (λ (o : Option Bool). at_digit o (get_or bits i b) (matches (drop (i + 1) p) (drop (i + 1) bits))) digit
    ∙ ap (λ (x : Bool). at_digit (Some wanted) x (matches (drop (i + 1) p) (drop (i + 1) bits))) bit
    ∙ same_digit wanted b (matches (drop (i + 1) p) (drop (i + 1) bits)) same

pub digit_free : (p : Pattern) (bits : List Bool) (i : ℕ) (d : Option Bool) → i < length p → i < length bits → matches p bits ≡ matches (drop i p) (drop i bits)
    → get_or p i d ≡ None → matches p bits ≡ matches (drop (i + 1) p) (drop (i + 1) bits)
digit_free p bits i d h k so_far digit =
    so_far ∙ matches_at p bits i d false h k
    ∙ ap (λ (o : Option Bool). at_digit o (get_or bits i false) (matches (drop (i + 1) p) (drop (i + 1) bits))) digit

-- ---- the first that passes a test

chosen_if : {X : Type 0} (b c : Bool) (x y : X) → b ≡ c → (if b then x else y) ≡ (if c then x else y)
chosen_if b c x y e = ap (λ (z : Bool). if z then x else y) e

look_up_at : (d : Device) (name : Name) (xs : List Access) (i : ℕ) (x : Access) → i < length xs
    → look_up name (map (access_meaning d) (drop i xs))
    ≡ (if bytes_eq name (get_or xs i x).instruction then (access_meaning d (get_or xs i x)).1 else look_up name (map (access_meaning d) (drop (i + 1) xs)))
look_up_at d name xs i x h =
    let next : i + 1 ≡ suc i = omega arith in
    ap (λ (ys : List Access). look_up name (map (access_meaning d) ys)) (drop-cons xs i x h)
    ∙ ap (λ n. if bytes_eq name (get_or xs i x).instruction then (access_meaning d (get_or xs i x)).1 else look_up name (map (access_meaning d) (drop n xs))) (sym next)

pub found_at : (d : Device) (name : Name) (xs : List Access) (i : ℕ) (x : Access) → i < length xs → look_up name (map (access_meaning d) xs) ≡ look_up name (map (access_meaning d) (drop i xs))
    → bytes_eq name (get_or xs i x).instruction ≡ true → look_up name (map (access_meaning d) xs) ≡ (access_meaning d (get_or xs i x)).1
found_at d name xs i x h so_far named = so_far ∙ look_up_at d name xs i x h ∙ chosen_if _ true _ _ named

pub passed_at : (d : Device) (name : Name) (xs : List Access) (i : ℕ) (x : Access) → i < length xs → look_up name (map (access_meaning d) xs) ≡ look_up name (map (access_meaning d) (drop i xs))
    → bytes_eq name (get_or xs i x).instruction ≡ false → look_up name (map (access_meaning d) xs) ≡ look_up name (map (access_meaning d) (drop (i + 1) xs))
passed_at d name xs i x h so_far named = so_far ∙ look_up_at d name xs i x h ∙ chosen_if _ false _ _ named

find_at : (test : Opcode → Bool) (xs : List Opcode) (i : ℕ) (x : Opcode) → i < length xs
    → find test (drop i xs) ≡ (if test (get_or xs i x) then Some (get_or xs i x) else find test (drop (i + 1) xs))
find_at test xs i x h =
    let next : i + 1 ≡ suc i = omega arith in
    ap (find test) (drop-cons xs i x h) ∙ ap (λ n. if test (get_or xs i x) then Some (get_or xs i x) else find test (drop n xs)) (sym next)

-- the register of an own instruction
pub user_there : (d : Device) (k u : ℕ) (o : Option Access) → access_at d k ≡ o → option_map (λ a. a.place) o ≡ Some (AtUser u) → IsFormed d → FitsAt d (User u) (option_and_then (λ a. a.captures) o)
user_there d k u None e is formed = absurd (impossible is)
  where
    impossible : None ≡ Some (AtUser u) → ⊥
    impossible x = cc
user_there d k u (Some a) e is formed = formed.accesses k a e u (same is)
  where
    same : Some a.place ≡ Some (AtUser u) → a.place ≡ AtUser u
    same x = cc

pub own_found : (d : Device) (name : Name) (i : ℕ) (x : Access) (m : Meaning) → i < length d.accesses
    → look_up name (map (access_meaning d) d.accesses) ≡ look_up name (map (access_meaning d) (drop i d.accesses)) → bytes_eq name (get_or d.accesses i x).instruction ≡ true
    → option_map (λ a. (access_meaning d a).1) (slice_get d.accesses i) ≡ Some m → m ≡ look_up name (map (access_meaning d) d.accesses)
own_found d name i x m h so_far named is =
    let there : Some (access_meaning d (get_or d.accesses i x)).1 ≡ Some m = ap (option_map (λ a. (access_meaning d a).1)) (sym (slice_get-get_or d.accesses i x h)) ∙ is in
    sym (found_at d name d.accesses i x h so_far named ∙ same (access_meaning d (get_or d.accesses i x)).1 m there)
  where
    same : (a b : Meaning) → Some a ≡ Some b → a ≡ b
    same a b e = cc
