-- More bytes of a step are given out.
use Rattle.std.proofs.Common.{◌≡◌, Bool, true, false, ℕ, zero, suc, ◌+◌, ◌-◌, ◌*◌, ◌≤◌, List, [], ◌∷◌, length, take, drop, refl, ap, ◌∙◌, arith, length-drop}
use Rattle.std.proofs.lemmas.Bool.{eqb-true}
use Rattle.std.specs.Prelude.{◌==◌, min, slice_get, Some, if◌then◌else◌}
use Rattle.player.specs.PlaceInPlay.{IsSpaced, reads, up_to_reads}

-- how many `R` a byte is
abbrev pub is_read : ℕ → ℕ
is_read b = if b == 82 then 1 else 0

pub one-read : (b : ℕ) → is_read b ≤ 1
one-read b = by (b == 82)
  where
    by : (q : Bool) → (if q then 1 else 0) ≤ 1
    by true = omega arith
    by false = omega arith

pub reads-more : (n : ℕ) (l : List ℕ) (b : ℕ) (rest : List ℕ) → drop n l ≡ b ∷ rest → reads (take (n + 1) l) ≡ reads (take n l) + is_read b
reads-more n l b rest e = let next : n + 1 ≡ suc n = omega arith in ap (λ k. reads (take k l)) next ∙ by n l e
  where
    tail : (q : Bool) (n : ℕ) → (if q then suc n else n) ≡ n + (if q then 1 else 0)
    tail true n = omega arith
    tail false n = omega arith

    more : (q : Bool) (x y k : ℕ) → x ≡ y + k → (if q then suc x else x) ≡ (if q then suc y else y) + k
    more true x y k e = omega (arith, e)
    more false x y k e = e

    by : (n : ℕ) (l : List ℕ) → drop n l ≡ b ∷ rest → reads (take (suc n) l) ≡ reads (take n l) + is_read b
    by zero [] e = absurd (cc)
    by zero (x ∷ l) e = let same : x ≡ b = cc in ap (λ y. if y == 82 then 1 else 0) same ∙ let zero-first : is_read b ≡ 0 + is_read b = omega arith in zero-first
    by (suc n) [] e = absurd (cc)
    by (suc n) (x ∷ l) e = more (x == 82) (reads (take (suc n) l)) (reads (take n l)) (is_read b) (by n l e)

-- at most one byte, which is no `R`
one-silent : (n : ℕ) (l : List ℕ) → n ≤ 1 → ((b : ℕ) (rest : List ℕ) → l ≡ b ∷ rest → (b == 82) ≡ false) → reads (take n l) ≡ 0
one-silent zero l le first = refl
one-silent (suc n) [] le first = refl
one-silent (suc zero) (b ∷ l) le first = ap (λ (q : Bool). if q then 1 else 0) (first b l refl)
one-silent (suc (suc n)) (b ∷ l) le first = absurd (omega (arith, le))

-- few enough bytes are let through, since a third of them at most is `R`
pub few-reads : (n owed : ℕ) (l : List ℕ) → owed ≤ 256 → n ≤ 3 * (256 - owed) - 2 + (if owed == 256 then 1 else 0) → IsSpaced l
    → (owed ≡ 256 → (b : ℕ) (rest : List ℕ) → l ≡ b ∷ rest → (b == 82) ≡ false) → reads (take n l) ≤ 256 - owed
few-reads n owed l allowed le spaced first = by (owed == 256) refl le
  where
    by : (q : Bool) → (owed == 256) ≡ q → n ≤ 3 * (256 - owed) - 2 + (if q then 1 else 0) → reads (take n l) ≤ 256 - owed
    by true e le =
        let full : owed ≡ 256 = eqb-true owed 256 e in
        omega (arith, full, one-silent n l (omega (arith, full, le)) (first full))
    by false e le = let r = spaced 0 n in omega (arith, le, r)

-- what the window lets through reaches so far
pub reach : (n : ℕ) (l : List ℕ) (k : ℕ) → n ≤ length l → reads (take n l) ≤ k → n ≤ length (up_to_reads l k)
reach zero l k some le = omega arith
reach (suc n) [] k some le = absurd (omega (arith, some))
reach (suc n) (b ∷ l) k some le = by (b == 82) k le (λ m h. reach n l m (omega (arith, some)) h)
  where
    by : (q : Bool) (k : ℕ) → (if q then suc (reads (take n l)) else reads (take n l)) ≤ k
        → ((m : ℕ) → reads (take n l) ≤ m → n ≤ length (up_to_reads l m))
        → suc n ≤ length (if q then elim k [ zero ↦ [] | suc m ↦ b ∷ up_to_reads l m ] else b ∷ up_to_reads l k)
    by true zero le rest = absurd (omega (arith, le))
    by true (suc m) le rest = let r = rest m (omega (arith, le)) in omega (arith, r)
    by false k le rest = let r = rest k le in omega (arith, r)

-- and behind so many bytes
pub past : (n : ℕ) (l : List ℕ) (k : ℕ) → reads (take n l) ≤ k → drop n (up_to_reads l k) ≡ up_to_reads (drop n l) (k - reads (take n l))
past zero l k le = let same : k ≡ k - 0 = omega arith in ap (up_to_reads l) same
past (suc n) [] k le = refl
past (suc n) (b ∷ l) k le = by (b == 82) k le (λ m h. past n l m h)
  where
    by : (q : Bool) (k : ℕ) → (if q then suc (reads (take n l)) else reads (take n l)) ≤ k
        → ((m : ℕ) → reads (take n l) ≤ m → drop n (up_to_reads l m) ≡ up_to_reads (drop n l) (m - reads (take n l)))
        → drop (suc n) (if q then elim k [ zero ↦ [] | suc m ↦ b ∷ up_to_reads l m ] else b ∷ up_to_reads l k)
        ≡ up_to_reads (drop n l) (k - (if q then suc (reads (take n l)) else reads (take n l)))
    by true zero le rest = absurd (omega (arith, le))
    by true (suc m) le rest =
        let same : m - reads (take n l) ≡ suc m - suc (reads (take n l)) = omega arith in
        rest m (omega (arith, le)) ∙ ap (up_to_reads (drop n l)) same
    by false k le rest = rest k le

-- an `R` is held back once the window is full
pub held : (l : List ℕ) (owed : ℕ) → owed ≡ 256 → slice_get l 0 ≡ Some 82 → up_to_reads l (256 - owed) ≡ []
held [] owed full e = refl
held (b ∷ l) owed full e =
    let is : b ≡ 82 = cc in
    let none : 256 - owed ≡ 0 = omega (arith, full) in
    (λ i. up_to_reads (is i ∷ l) (none i))

-- nothing is let through, so this is all
pub all-given : (n size : ℕ) (through : List ℕ) → n ≤ size → n ≤ length through → drop n through ≡ [] → n ≡ min size (length through)
all-given n size through room some none = omega (arith, length-drop n through, ap length none)
