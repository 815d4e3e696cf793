-- A time that is put in one piece.
use Rattle.std.proofs.Common.{◌≡◌, ◌<◌, ◌≤◌, ◌+◌, ◌-◌, ◌^◌, ℕ, zero, suc, List, [], ◌∷◌, ◌++◌, length, take, drop, replicate, refl, ap, ◌∙◌, arith}
use Rattle.std.proofs.lemmas.Fmt.{decimal_nonempty, length-decimal-le}
use Rattle.std.proofs.lemmas.List.{length-drop, take_all}
use Rattle.std.specs.Prelude.{codes, decimal, slice_get, unwrap_or}

-- `#`
abbrev mark : ℕ
mark = 35

same_head : (x y : ℕ) (xs ys : List ℕ) → x ∷ xs ≡ y ∷ ys → x ≡ y
same_head x y xs ys e = ap (λ (l : List ℕ). unwrap_or (slice_get l 0) 0) e

-- of a line that begins with so many marks, one that has the same front has a mark there
marked : (k m : ℕ) (line tail : List ℕ) → k < m → take (suc k) line ≡ take (suc k) (replicate m mark ++ tail) → drop k line ≡ mark ∷ drop (suc k) line
marked k zero line tail less same = absurd (omega (arith, less))
marked zero (suc m) [] tail less same = absurd cc
marked zero (suc m) (x ∷ line) tail less same = ap (λ (y : ℕ). y ∷ line) (same_head x mark [] [] same)
marked (suc k) (suc m) [] tail less same = absurd cc
marked (suc k) (suc m) (x ∷ line) tail less same =
    marked k m line tail (omega (arith, less)) (ap (λ (l : List ℕ). drop 1 l) same)

behind : (m : ℕ) (tail : List ℕ) → drop m (replicate m mark ++ tail) ≡ tail
behind zero tail = refl
behind (suc m) tail = behind m tail

-- the digits before what follows, and the mark before them
stamped : (time start m : ℕ) (line old tail : List ℕ) → old ≡ replicate m mark ++ tail → start + length (decimal time) ≡ m → 0 < length (decimal time) → 0 < start
    → drop start line ≡ decimal time ++ drop m old → take start line ≡ take start old
    → drop (start - 1) line ≡ codes "#" ++ (decimal time ++ tail)
stamped time zero m line old tail is ends some there digits front = absurd (omega (arith, there))
stamped time (suc k) m line old tail is ends some there digits front =
    let one : suc k - 1 ≡ k = omega arith in
    ap (λ (n : ℕ). drop n line) one
    ∙ marked k m line tail (omega (arith, ends, some)) (front ∙ ap (take (suc k)) is)
    ∙ ap (λ (l : List ℕ). mark ∷ l) (digits ∙ ap (λ (l : List ℕ). decimal time ++ drop m l) is ∙ ap (λ (l : List ℕ). decimal time ++ l) (behind m tail))

pub digits_fit : (time : ℕ) → time < 2 ^ 64 → length (decimal time) ≤ 20
digits_fit time fits = length-decimal-le 20 time (omega arith) (omega (arith, fits)) fits

pub starts : (time start : ℕ) → time < 2 ^ 64 → start + length (decimal time) ≡ 21 → 1 ≤ start
starts time start fits ends = omega (arith, ends, digits_fit time fits)

-- what is put, the line having room for so many bytes
pub put_so : (time start room : ℕ) (line old tail : List ℕ) → time < 2 ^ 64 → old ≡ replicate 21 mark ++ tail → start + length (decimal time) ≡ 21
    → drop start line ≡ decimal time ++ drop 21 old → take start line ≡ take start old → length line ≡ room
    → take (room - (start - 1)) (drop (start - 1) line) ≡ codes "#" ++ (decimal time ++ tail)
put_so time start room line old tail fits is ends digits front long =
    take_all (room - (start - 1)) (drop (start - 1) line) (omega (arith, length-drop (start - 1) line, long))
    ∙ stamped time start 21 line old tail is ends (decimal_nonempty time fits) (starts time start fits ends) digits front
