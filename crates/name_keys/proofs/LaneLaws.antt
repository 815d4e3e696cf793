-- Bytes in upper case, sixteen at once.
use Rattle.std.proofs.Common.{◌≡◌, ◌*◌, ◌+◌, ℕ, Bool, true, false, not, List, [], ◌∷◌, length, map, cond, eqb, refl, ap, ap₂, arith, Fits, w8}
use Rattle.std.proofs.lemmas.Bool.{agree_below, agree_below_at, eqb-true}
use Rattle.std.proofs.lemmas.Simd.{Each1-weaker}
use lib.Lanes.{Each1, mask_l, sel_l, zip2}

-- lanes are chosen one by one
pub selected : (m : ℕ → Bool) (g : ℕ → ℕ) (v : List ℕ) → sel_l (map m v) (map g v) v ≡ map (λ x. cond (m x) (g x) x) v
selected m g [] = refl
selected m g (x ∷ v) = ap (λ (l : List ℕ). cond (m x) (g x) x ∷ l) (selected m g v)

-- functions that agree on each element give the same list
pub map_same : (f g : ℕ → ℕ) (v : List ℕ) → Each1 (λ x. f x ≡ g x) v → map f v ≡ map g v
map_same f g [] same = refl
map_same f g (x ∷ v) same = ap₂ (λ (y : ℕ) (l : List ℕ). y ∷ l) same.0 (map_same f g v same.1)

-- bytes are tried one by one
pub map_of_bytes : (f g : ℕ → ℕ) (v : List ℕ) → Each1 (Fits w8) v → agree_below (λ x. eqb (f x) (g x)) (λ _. true) 256 ≡ true → map f v ≡ map g v
map_of_bytes f g v fits all =
    map_same f g v (Each1-weaker (Fits w8) (λ x. f x ≡ g x) (λ x small. eqb-true (f x) (g x) (agree_below_at (λ x. eqb (f x) (g x)) (λ _. true) 256 x all small.fits)) v fits)

no_bit : (b : Bool) (m : ℕ) → cond b 1 0 + 2 * m ≡ 0 → b ≡ false
no_bit true m none = absurd (omega arith)
no_bit false m none = refl

none_behind : (b : Bool) (m : ℕ) → cond b 1 0 + 2 * m ≡ 0 → m ≡ 0
none_behind true m none = absurd (omega arith)
none_behind false m none = omega arith

same_by : (x y : ℕ) → not (eqb x y) ≡ false → x ≡ y
same_by x y is = grind (arith, is)

-- where no lane differs the two are the same
pub same_by_mask : (xs ys : List ℕ) → length xs ≡ length ys → mask_l (zip2 (λ a b. not (eqb a b)) xs ys) ≡ 0 → xs ≡ ys
same_by_mask [] [] long none = refl
same_by_mask [] (y ∷ ys) long none = absurd (omega arith)
same_by_mask (x ∷ xs) [] long none = absurd (omega arith)
same_by_mask (x ∷ xs) (y ∷ ys) long none =
    ap₂ (λ (a : ℕ) (l : List ℕ). a ∷ l)
    (same_by x y (no_bit (not (eqb x y)) (mask_l (zip2 (λ a b. not (eqb a b)) xs ys)) none))
    (same_by_mask xs ys (omega arith) (none_behind (not (eqb x y)) (mask_l (zip2 (λ a b. not (eqb a b)) xs ys)) none))
