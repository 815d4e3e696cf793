-- What the cells were told, a byte for each of them.
use Rattle.std.proofs.Common.{◌≡◌, ◌+◌, ◌<◌, ◌≤◌, ◌==◌, ℕ, zero, suc, Bool, true, false, cond, List, [], ◌∷◌, length, map, take, replicate, get_or, set, refl, sym, ap, ◌∙◌, arith}
use Rattle.std.proofs.lemmas.List.{get_or-map, map-set}
use Rattle.std.proofs.lemmas.Option.{unwrap_or-slice_get}
use Rattle.std.proofs.lemmas.Simd.{bit_mask_l, get_or-chunk, length-chunk}
use Rattle.std.specs.Simd.Lanes.{chunk, mask_l}
use mir.Val.{bool_byte}
use Rattle.jt_bits.specs.Packed.{has_bit}
use Rattle.jt_bits.specs.Words.{bit_of}
use Rattle.boundary.specs.Told.{is_one}

one-bit : (b : Bool) → (cond b 1 0 == 1) ≡ b
one-bit true = refl
one-bit false = refl

mask-bit : (ms : List Bool) (j : ℕ) → has_bit (mask_l ms) j ≡ get_or ms j false
unfolding has_bit
mask-bit ms j = ap (λ (n : ℕ). n == 1) (bit_mask_l ms j) ∙ one-bit (get_or ms j false)

-- a word of the 64 bytes from a place on
pub told_bits : (seen : List ℕ) (at j : ℕ) → at + 64 ≤ length seen → j < 64 → has_bit (mask_l (map (λ x. x == 1) (chunk at 64 seen))) j ≡ bit_of (map is_one seen) (at + j)
told_bits seen at j room h =
    mask-bit (map (λ x. x == 1) (chunk at 64 seen)) j
    ∙ get_or-map (λ x. x == 1) (chunk at 64 seen) j 0 false (omega (arith, h, length-chunk at 64 seen room))
    ∙ ap (λ (x : ℕ). x == 1) (get_or-chunk at 64 seen j 0 h)
    ∙ sym (unwrap_or-slice_get (map is_one seen) (at + j) false ∙ get_or-map is_one seen (at + j) 0 false (omega (arith, h, room)))

-- ---- the list of the bits

nothing-told : (n m : ℕ) → n ≤ m → take n (map is_one (replicate m 0)) ≡ replicate n false
nothing-told zero m h = refl
nothing-told (suc n) zero h = absurd (omega (arith, h))
nothing-told (suc n) (suc m) h = ap (λ (l : List Bool). false ∷ l) (nothing-told n m (omega (arith, h)))

pub none_told : (n : ℕ) (bytes : List ℕ) → bytes ≡ replicate (n + 63) 0 → take n (map is_one bytes) ≡ replicate n false
none_told n bytes is = ap (λ (l : List ℕ). take n (map is_one l)) is ∙ nothing-told n (n + 63) (omega arith)

take-put : (l : List Bool) (n i : ℕ) (b : Bool) → take n (set l i b) ≡ set (take n l) i b
take-put l zero i b = refl
take-put [] (suc n) i b = refl
take-put (x ∷ l) (suc n) zero b = refl
take-put (x ∷ l) (suc n) (suc i) b = ap (λ (r : List Bool). x ∷ r) (take-put l n i b)

one-byte : (b : Bool) → is_one (bool_byte b) ≡ b
one-byte true = refl
one-byte false = refl

pub one_told : (bytes : List ℕ) (n cell byte : ℕ) (bit : Bool) → byte ≡ bool_byte bit → take n (map is_one (set bytes cell byte)) ≡ set (take n (map is_one bytes)) cell bit
one_told bytes n cell byte bit is =
    ap (take n) (map-set is_one bytes cell byte) ∙ take-put (map is_one bytes) n cell (is_one byte)
    ∙ ap (set (take n (map is_one bytes)) cell) (ap is_one is ∙ one-byte bit)

pub cut_told : (bytes : List ℕ) (n k : ℕ) → ((i : ℕ) → n ≤ i → get_or bytes i 0 ≡ 0) → bit_of (take n (map is_one bytes)) k ≡ bit_of (map is_one bytes) k
cut_told [] zero k none = refl
cut_told [] (suc n) k none = refl
cut_told (x ∷ bytes) zero zero none = sym (ap is_one (none 0 (omega arith)))
cut_told (x ∷ bytes) zero (suc k) none = cut_told bytes zero k (λ i h. none (suc i) (omega (arith, h)))
cut_told (x ∷ bytes) (suc n) zero none = refl
cut_told (x ∷ bytes) (suc n) (suc k) none = cut_told bytes n k (λ i h. none (suc i) (omega (arith, h)))
