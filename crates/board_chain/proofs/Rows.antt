-- Rows of registers, bit by bit of the joined list.
use Rattle.std.proofs.Common.{◌≡◌, ℕ, zero, suc, ◌+◌, ◌-◌, ◌<◌, ◌≤◌, ⊎_elim, Bool, List, [], ◌∷◌, ◌++◌, length, take, drop, set, get_or, map, refl, sym, ap, subst, ◌∙◌, arith, length-append}
use Rattle.std.proofs.lemmas.Bool.{cases_lt}
use Rattle.std.proofs.lemmas.List.{get_or-map}
use Rattle.jt_bits.specs.Runs.{RunSet}
use Rattle.jt_bits.specs.Words.{bit_of}
use Rattle.board_chain.specs.Rows.{joined_registers, before}

-- one register more stands before the next
pub before_more : (rows : List (List Bool)) (k : ℕ) → k < length rows → before rows (k + 1) ≡ before rows k + length (get_or rows k [])
before_more [] k h = absurd (omega arith)
before_more (r ∷ rows) zero h = rw length-append (omega arith)
before_more (r ∷ rows) (suc k) h = let e = before_more rows k (omega arith) in
    let n : suc k + 1 ≡ suc (k + 1) = omega arith in
    let a = length-append r (joined_registers (take (k + 1) rows)) in
    let b = length-append r (joined_registers (take k rows)) in
    ap (before (r ∷ rows)) n ∙ omega (arith, e, a, b)

pub before_all : (rows : List (List Bool)) (k : ℕ) → length rows ≤ k → before rows k ≡ length (joined_registers rows)
before_all [] zero h = refl
before_all [] (suc k) h = refl
before_all (r ∷ rows) zero h = absurd (omega arith)
before_all (r ∷ rows) (suc k) h =
    let e = before_all rows k (omega arith) in
    let a = length-append r (joined_registers (take k rows)) in
    let b = length-append r (joined_registers rows) in
    omega (arith, e, a, b)

-- the register of a link that was read
pub row_at : {A : Type 0} (register : A → List Bool) (chain : List A) (k : ℕ) (c : A) → k < length chain → c ≡ get_or chain k c → get_or (map register chain) k [] ≡ register c
row_at register chain k c h is = get_or-map register chain k c [] h ∙ ap register (sym is)

-- ---- bits of lists that are joined

pub bit-left : (xs ys : List Bool) (i : ℕ) → i < length xs → bit_of (xs ++ ys) i ≡ bit_of xs i
bit-left [] ys i h = absurd (omega arith)
bit-left (x ∷ xs) ys zero h = refl
bit-left (x ∷ xs) ys (suc i) h = bit-left xs ys i (omega arith)

pub bit-right : (xs ys : List Bool) (i : ℕ) → bit_of (xs ++ ys) (length xs + i) ≡ bit_of ys i
bit-right [] ys i = let e : 0 + i ≡ i = omega arith in ap (bit_of ys) e
bit-right (x ∷ xs) ys i =
    let e : length (x ∷ xs) + i ≡ suc (length xs + i) = omega arith in
    ap (bit_of (x ∷ xs ++ ys)) e ∙ bit-right xs ys i

pub bit-drop : (n : ℕ) (xs : List Bool) (i : ℕ) → bit_of (drop n xs) i ≡ bit_of xs (n + i)
bit-drop n [] i = none n i
  where
    none : (n i : ℕ) → bit_of (drop n []) i ≡ bit_of [] (n + i)
    none zero i = refl
    none (suc n) i = refl
bit-drop zero (x ∷ xs) i = let e : 0 + i ≡ i = omega arith in rw e refl
bit-drop (suc n) (x ∷ xs) i =
    let e : suc n + i ≡ suc (n + i) = omega arith in
    bit-drop n xs i ∙ ap (bit_of (x ∷ xs)) (sym e)

-- lists of the same bits are one
pub same_bits : (xs ys : List Bool) → length xs ≡ length ys → ((i : ℕ) → i < length ys → bit_of xs i ≡ bit_of ys i) → xs ≡ ys
same_bits [] [] long each = refl
same_bits [] (y ∷ ys) long each = absurd (omega arith)
same_bits (x ∷ xs) [] long each = absurd (omega arith)
same_bits (x ∷ xs) (y ∷ ys) long each =
    let head : x ≡ y = each 0 (omega arith) in
    let tail : xs ≡ ys = same_bits xs ys (omega arith) (λ i h. each (suc i) (omega arith)) in
    rw (head, tail) refl

-- a bit of a register stands in the joined list behind the registers before it
pub joined-bit : (rows : List (List Bool)) (k j : ℕ) → k < length rows → j < length (get_or rows k []) → bit_of (joined_registers rows) (before rows k + j) ≡ bit_of (get_or rows k []) j
joined-bit [] k j h i = absurd (omega arith)
joined-bit (r ∷ rows) zero j h i =
    let e : 0 + j ≡ j = omega arith in
    ap (bit_of (r ++ joined_registers rows)) e ∙ bit-left r (joined_registers rows) j i
joined-bit (r ∷ rows) (suc k) j h i =
    let e : length (r ++ joined_registers (take k rows)) + j ≡ length r + (before rows k + j) = rw length-append (omega arith) in
    ap (bit_of (r ++ joined_registers rows)) e ∙ bit-right r (joined_registers rows) (before rows k + j) ∙ joined-bit rows k j (omega arith) i

-- a run that is put into the first of two lists
run-left : (xs ns ys : List Bool) (at bits n : ℕ) → at + n ≤ length xs → RunSet xs ns at bits n → RunSet (xs ++ ys) (ns ++ ys) at bits n
run-left xs ns ys at bits n inside put =
    let old_long = length-append xs ys in
    let long = put.long in
    record {
      long = length-append ns ys ∙ omega (arith, long, old_long);
      here = λ j h. bit-left ns ys (at + j) (omega (arith, long)) ∙ put.here j h;
      below = λ i h. bit-left ns ys i (omega (arith, long)) ∙ put.below i h ∙ sym (bit-left xs ys i (omega arith));
      above = λ i in_ h. ⊎_elim
          (λ (first : i < length xs). bit-left ns ys i (omega (arith, long)) ∙ put.above i first h ∙ sym (bit-left xs ys i first))
          (λ (later : length xs ≤ i).
          let at_new : length ns + (i - length xs) ≡ i = omega (arith, long) in
          let at_old : length xs + (i - length xs) ≡ i = omega arith in
          ap (bit_of (ns ++ ys)) (sym at_new) ∙ bit-right ns ys (i - length xs) ∙ sym (bit-right xs ys (i - length xs)) ∙ ap (bit_of (xs ++ ys)) at_old)
          (cases_lt i (length xs));
    }

-- and into the second
run-right : (xs ys ns : List Bool) (at bits n : ℕ) → RunSet ys ns at bits n → RunSet (xs ++ ys) (xs ++ ns) (length xs + at) bits n
run-right xs ys ns at bits n put =
    let old_long = length-append xs ys in
    let long = put.long in
    let same : (i m : ℕ) → length xs + m ≡ i → bit_of ns m ≡ bit_of ys m → bit_of (xs ++ ns) i ≡ bit_of (xs ++ ys) i =
    λ i m e is. ap (bit_of (xs ++ ns)) (sym e) ∙ bit-right xs ns m ∙ is ∙ sym (bit-right xs ys m) ∙ ap (bit_of (xs ++ ys)) e in
    record {
      long = length-append xs ns ∙ omega (arith, long, old_long);
      here = λ j h.
          let e : (length xs + at) + j ≡ length xs + (at + j) = omega arith in
          ap (bit_of (xs ++ ns)) e ∙ bit-right xs ns (at + j) ∙ put.here j h;
      below = λ i h. ⊎_elim
          (λ (first : i < length xs). bit-left xs ns i first ∙ sym (bit-left xs ys i first))
          (λ (later : length xs ≤ i). same i (i - length xs) (omega arith) (put.below (i - length xs) (omega arith)))
          (cases_lt i (length xs));
      above = λ i in_ h. same i (i - length xs) (omega arith) (put.above (i - length xs) (omega (arith, in_, old_long)) (omega arith));
    }

-- a run that is put into a register is put into the joined list
pub joined-run : (rows : List (List Bool)) (k j : ℕ) (r : List Bool) (bits n : ℕ) → k < length rows → j + n ≤ length (get_or rows k []) → RunSet (get_or rows k []) r j bits n
    → RunSet (joined_registers rows) (joined_registers (set rows k r)) (before rows k + j) bits n
joined-run [] k j r bits n h inside put = absurd (omega arith)
joined-run (o ∷ rows) zero j r bits n h inside put =
    let e : j ≡ 0 + j = omega arith in
    subst (λ (m : ℕ). RunSet (o ++ joined_registers rows) (r ++ joined_registers rows) m bits n) e (run-left o r (joined_registers rows) j bits n inside put)
joined-run (o ∷ rows) (suc k) j r bits n h inside put =
    let e : length o + (before rows k + j) ≡ length (o ++ joined_registers (take k rows)) + j = rw length-append (omega arith) in
    subst (λ (m : ℕ). RunSet (o ++ joined_registers rows) (o ++ joined_registers (set rows k r)) m bits n) e
    (run-right o (joined_registers rows) (joined_registers (set rows k r)) (before rows k + j) bits n (joined-run rows k j r bits n (omega arith) inside put))

-- ---- lengths of registers

abbrev pub lengths : List (List Bool) → List ℕ
lengths rows = map (λ (r : List Bool). length r) rows

pub lengths-set : (rows : List (List Bool)) (k : ℕ) (r : List Bool) → length r ≡ length (get_or rows k []) → lengths (set rows k r) ≡ lengths rows
lengths-set [] k r e = refl
lengths-set (o ∷ rows) zero r e = ap (λ (n : ℕ). n ∷ lengths rows) e
lengths-set (o ∷ rows) (suc k) r e = ap (λ (l : List ℕ). length o ∷ l) (lengths-set rows k r e)

abbrev head_of : List ℕ → ℕ
head_of ns = get_or ns 0 0

pub same_before : (now old : List (List Bool)) (k : ℕ) → lengths now ≡ lengths old → before now k ≡ before old k
same_before [] [] k e = refl
same_before [] (o ∷ old) k e = absurd (cc)
same_before (r ∷ now) [] k e = absurd (cc)
same_before (r ∷ now) (o ∷ old) zero e = refl
same_before (r ∷ now) (o ∷ old) (suc k) e =
    let h : length r ≡ length o = ap head_of e in
    let t = same_before now old k (ap (drop 1) e) in
    let a = length-append r (joined_registers (take k now)) in
    let b = length-append o (joined_registers (take k old)) in
    omega (arith, h, t, a, b)

pub same_count : (now old : List (List Bool)) → lengths now ≡ lengths old → length now ≡ length old
same_count [] [] e = refl
same_count [] (o ∷ old) e = absurd (cc)
same_count (r ∷ now) [] e = absurd (cc)
same_count (r ∷ now) (o ∷ old) e = let t = same_count now old (ap (drop 1) e) in omega (arith, t)

pub same_len : (now old : List (List Bool)) (k : ℕ) → lengths now ≡ lengths old → length (get_or now k []) ≡ length (get_or old k [])
same_len [] [] k e = refl
same_len [] (o ∷ old) k e = absurd (cc)
same_len (r ∷ now) [] k e = absurd (cc)
same_len (r ∷ now) (o ∷ old) zero e = ap head_of e
same_len (r ∷ now) (o ∷ old) (suc k) e = same_len now old k (ap (drop 1) e)

-- a joined list, cut back by the same lengths
abbrev pub cut_back : List Bool → List (List Bool) → List (List Bool)
cut_back bits [] = []
cut_back bits (r ∷ rows) = take (length r) bits ∷ cut_back (drop (length r) bits) rows

take-left : (xs ys : List Bool) → take (length xs) (xs ++ ys) ≡ xs
take-left [] ys = none ys
  where
    none : (ys : List Bool) → take 0 ys ≡ []
    none [] = refl
    none (y ∷ ys) = refl
take-left (x ∷ xs) ys = ap (λ (l : List Bool). x ∷ l) (take-left xs ys)

drop-left : (xs ys : List Bool) → drop (length xs) (xs ++ ys) ≡ ys
drop-left [] ys = none ys
  where
    none : (ys : List Bool) → drop 0 ys ≡ ys
    none [] = refl
    none (y ∷ ys) = refl
drop-left (x ∷ xs) ys = drop-left xs ys

-- registers of these lengths are their joined list cut back
pub is_cut_back : (now old : List (List Bool)) → lengths now ≡ lengths old → now ≡ cut_back (joined_registers now) old
is_cut_back [] [] e = refl
is_cut_back [] (o ∷ old) e = absurd (cc)
is_cut_back (r ∷ now) [] e = absurd (cc)
is_cut_back (r ∷ now) (o ∷ old) e =
    let h : length o ≡ length r = sym (ap head_of e) in
    rw (h, take-left r (joined_registers now), drop-left r (joined_registers now)) (ap (λ (l : List (List Bool)). r ∷ l) (is_cut_back now old (ap (drop 1) e)))

-- before is at most all, and a bit of a register is one of the joined list
pub inside : (rows : List (List Bool)) (k j : ℕ) → k < length rows → j < length (get_or rows k []) → before rows k + j < length (joined_registers rows)
inside [] k j h i = absurd (omega arith)
inside (r ∷ rows) zero j h i = rw length-append (omega arith)
inside (r ∷ rows) (suc k) j h i =
    let e = inside rows k j (omega arith) i in
    let a = length-append r (joined_registers (take k rows)) in
    let b = length-append r (joined_registers rows) in
    omega (arith, e, a, b)
