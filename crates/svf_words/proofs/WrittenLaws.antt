-- A word is read as a number exactly where it writes that number.
use Rattle.std.specs.Prelude.{⊤}
use Rattle.std.proofs.Common.{◌≡◌, ℕ, suc, ◌+◌, ◌<◌, Bool, true, false, cond, eqb, ◌==◌, ◌&&◌, ◌||◌, nat_lt, if◌then◌else◌, List, [], ◌∷◌, ◌++◌, length, take, drop, Option, Some, None, option_map, refl, sym, ap, subst, ◌∙◌, arith}
use Rattle.std.specs.List.{list_all, prefix_len}
use Rattle.std.specs.Char.{is_ascii_digit}
use Rattle.std.proofs.Math.Seq.{take-append_seam, drop-append_seam}
use Rattle.std.proofs.lemmas.List.{take-append-drop}
use Rattle.std.proofs.lemmas.Bool.Decides.{nat_tests}
use Rattle.svf_words.specs.Numbers.{Numeral, split_digits, split_fraction, exponent_digits, signed_exponent, exponent_of, numeral_of}
use Rattle.svf_words.specs.Words.{Word}
use Rattle.svf_words.specs.Written.{AreDigits, WritesFraction, IsMark, WritesSign, WritesExponent, Writes, ReadsWhatIsWritten}
use Rattle.svf_words.specs.Written as written

-- ---- what is written is read

both_true : (a b : Bool) → (a && b) ≡ true → (a ≡ true) × (b ≡ true)
both_true true b e = (refl, e)
both_true false b e = cc

digits_first : (ds rest : List ℕ) → AreDigits ds → prefix_len is_ascii_digit rest ≡ 0 → prefix_len is_ascii_digit (ds ++ rest) ≡ length ds
digits_first [] rest all none = none
digits_first (d ∷ ds) rest all none =
    let b = both_true (is_ascii_digit d) (list_all is_ascii_digit ds) all in
    let more = digits_first ds rest b.1 none in
    ap (λ (t : Bool). cond t (1 + prefix_len is_ascii_digit (ds ++ rest)) 0) b.0 ∙ omega (arith, more)

split_at : (ds rest : List ℕ) → AreDigits ds → prefix_len is_ascii_digit rest ≡ 0 → split_digits (ds ++ rest) ≡ (ds, rest)
split_at ds rest all none =
    let many = digits_first ds rest all none in
    let pair : ℕ → List ℕ × List ℕ = λ k. (take k (ds ++ rest), drop k (ds ++ rest)) in
    ap pair many
    ∙ ap (λ (xs : List ℕ). let p : List ℕ × List ℕ = (xs, drop (length ds) (ds ++ rest)) in p) (take-append_seam ds rest)
    ∙ ap (λ (xs : List ℕ). let p : List ℕ × List ℕ = (ds, xs) in p) (drop-append_seam ds rest)

mark_no_digit : (mark : ℕ) (rest : List ℕ) → IsMark mark → prefix_len is_ascii_digit (mark ∷ rest) ≡ 0
mark_no_digit mark rest written.large = refl
mark_no_digit mark rest written.small = refl

exponent_no_digit : (negative : Bool) (ds text : List ℕ) → WritesExponent negative ds text → prefix_len is_ascii_digit text ≡ 0
exponent_no_digit negative ds text written.no_exponent = refl
exponent_no_digit negative ds text (written.exponent mark neg sign es m s all some) = mark_no_digit mark (sign ++ es) m

tail_no_digit : (fd ft : List ℕ) (negative : Bool) (ed et : List ℕ) → WritesFraction fd ft → WritesExponent negative ed et → prefix_len is_ascii_digit (ft ++ et) ≡ 0
tail_no_digit fd ft negative ed et written.no_point x = exponent_no_digit negative ed et x
tail_no_digit fd ft negative ed et (written.point ds all) x = refl

no_point_read : (negative : Bool) (ed et : List ℕ) → WritesExponent negative ed et → split_fraction et ≡ ([], et)
no_point_read negative ed et written.no_exponent = refl
no_point_read negative ed et (written.exponent mark neg sign es m s all some) = by_mark mark (sign ++ es) m
  where
    by_mark : (c : ℕ) (cs : List ℕ) → IsMark c → split_fraction (c ∷ cs) ≡ ([], c ∷ cs)
    by_mark c cs written.large = refl
    by_mark c cs written.small = refl

fraction_read : (fd ft : List ℕ) (negative : Bool) (ed et : List ℕ) → WritesFraction fd ft → WritesExponent negative ed et → split_fraction (ft ++ et) ≡ (fd, et)
fraction_read fd ft negative ed et written.no_point x = no_point_read negative ed et x
fraction_read fd ft negative ed et (written.point ds all) x = split_at ds et all (exponent_no_digit negative ed et x)

digits_read : (negative : Bool) (ds : List ℕ) → AreDigits ds → 0 < length ds → exponent_digits negative ds ≡ Some (negative, ds)
digits_read negative ds all some = let t : nat_lt 0 (length ds) ≡ true = grind (arith, nat_tests) in rw (t, all) refl

signed_read : (negative : Bool) (sign ds : List ℕ) → WritesSign negative sign → AreDigits ds → 0 < length ds → signed_exponent (sign ++ ds) ≡ Some (negative, ds)
signed_read negative sign ds written.minus all some = digits_read true ds all some
signed_read negative sign ds written.plus all some = digits_read false ds all some
signed_read negative sign [] written.unsigned all some = absurd (omega arith)
signed_read negative sign (d ∷ ds) written.unsigned all some =
    let b = both_true (is_ascii_digit d) (list_all is_ascii_digit ds) all in
    let minus : eqb d 45 ≡ false = no_sign d 45 b.0 (omega arith) in
    let plus : eqb d 43 ≡ false = no_sign d 43 b.0 (omega arith) in
    rw (minus, plus) (digits_read false (d ∷ ds) all some)
  where
    no_sign : (d c : ℕ) → is_ascii_digit d ≡ true → c < 48 → eqb d c ≡ false
    no_sign d c h low = grind (arith, nat_tests)

exponent_read : (negative : Bool) (ds text : List ℕ) → WritesExponent negative ds text → exponent_of text ≡ Some (negative, ds)
exponent_read negative ds text written.no_exponent = refl
exponent_read negative ds text (written.exponent mark neg sign es m s all some) = by_mark mark (sign ++ es) m ∙ signed_read neg sign es s all some
  where
    by_mark : (c : ℕ) (cs : List ℕ) → IsMark c → exponent_of (c ∷ cs) ≡ signed_exponent cs
    by_mark c cs written.large = refl
    by_mark c cs written.small = refl

-- the number of digits before the point, of those behind it, and of what stands behind these
abbrev numeral_by : List ℕ → List ℕ × List ℕ → Option Numeral
numeral_by whole fraction =
    if length whole + length fraction.0 == 0 then None
    else option_map (λ e. record { whole = whole; fraction = fraction.0; negative = e.0; exponent = e.1 }) (exponent_of fraction.1)

by_parts : (w : Word) → numeral_of w ≡ numeral_by (split_digits w).0 (split_fraction (split_digits w).1)
unfolding numeral_of
by_parts w = refl

read : (n : Numeral) (w : Word) → Writes n w → numeral_of w ≡ Some n
read n w h =
    let tail = h.fraction ++ h.exponent in
    let front : split_digits w ≡ (n.whole, tail) =
    ap split_digits h.parts ∙ split_at n.whole tail h.whole_digits (tail_no_digit n.fraction h.fraction n.negative n.exponent h.exponent h.fraction_written h.exponent_written) in
    let back : split_fraction tail ≡ (n.fraction, h.exponent) = fraction_read n.fraction h.fraction n.negative n.exponent h.exponent h.fraction_written h.exponent_written in
    let some : eqb (length n.whole + length n.fraction) 0 ≡ false = grind (arith, nat_tests, h.some_digit) in
    by_parts w
    ∙ ap (λ (p : List ℕ × List ℕ). numeral_by p.0 (split_fraction p.1)) front
    ∙ ap (numeral_by n.whole) back
    ∙ rw (some, exponent_read n.negative n.exponent h.exponent h.exponent_written) refl

-- ---- what is read is written

is_that : (c k : ℕ) → eqb c k ≡ true → c ≡ k
is_that c k e = grind (arith, nat_tests)

front_digits : (w : List ℕ) → AreDigits (take (prefix_len is_ascii_digit w) w)
front_digits [] = refl
front_digits (c ∷ cs) = by_test (is_ascii_digit c) refl (front_digits cs)
  where
    by_test : (b : Bool) → is_ascii_digit c ≡ b → AreDigits (take (prefix_len is_ascii_digit cs) cs) → AreDigits (take (cond b (1 + prefix_len is_ascii_digit cs) 0) (c ∷ cs))
    by_test true e more = let next : 1 + prefix_len is_ascii_digit cs ≡ suc (prefix_len is_ascii_digit cs) = omega arith in rw next (rw e more)
    by_test false e more = refl

split_back : (w : List ℕ) → w ≡ (split_digits w).0 ++ (split_digits w).1
split_back w = sym (take-append-drop (prefix_len is_ascii_digit w) w)

record PointBack (rest : List ℕ) (p : List ℕ × List ℕ) : Type 0 where
  text : List ℕ
  written : WritesFraction p.0 text
  parts : rest ≡ text ++ p.1

point_back : (rest : List ℕ) → PointBack rest (split_fraction rest)
point_back [] = record { text = []; written = written.no_point; parts = refl }
point_back (c ∷ cs) = by_test (c == 46) refl
  where
    by_test : (b : Bool) → (c == 46) ≡ b → PointBack (c ∷ cs) (if b then split_digits cs else ([], c ∷ cs))
    by_test true e = record {
      text = 46 ∷ (split_digits cs).0;
      written = written.point (split_digits cs).0 (front_digits cs);
      parts = ap (λ (k : ℕ). k ∷ cs) (is_that c 46 e) ∙ ap (λ (xs : List ℕ). 46 ∷ xs) (split_back cs);
    }
    by_test false e = record { text = []; written = written.no_point; parts = refl }

-- an exponent that is read is written so
abbrev Shown : List ℕ → Option (Bool × List ℕ) → Type 0
Shown text None = ⊤
Shown text (Some e) = WritesExponent e.0 e.1 text

digits_shown : (mark : ℕ) (negative : Bool) (sign ds : List ℕ) → IsMark mark → WritesSign negative sign → Shown (mark ∷ sign ++ ds) (exponent_digits negative ds)
digits_shown mark negative sign ds m s = by_test (nat_lt 0 (length ds)) (list_all is_ascii_digit ds) refl refl
  where
    by_test : (a b : Bool) → nat_lt 0 (length ds) ≡ a → list_all is_ascii_digit ds ≡ b → Shown (mark ∷ sign ++ ds) (if a && b then Some (negative, ds) else None)
    by_test true true e f = written.exponent mark negative sign ds m s f (grind (arith, nat_tests))
    by_test true false e f = tt
    by_test false b e f = tt

signed_shown : (mark : ℕ) (cs : List ℕ) → IsMark mark → Shown (mark ∷ cs) (signed_exponent cs)
signed_shown mark [] m = tt
signed_shown mark (c ∷ cs) m = by_test (c == 45) (c == 43) refl refl
  where
    by_test : (a b : Bool) → (c == 45) ≡ a → (c == 43) ≡ b
        → Shown (mark ∷ c ∷ cs) (if a then exponent_digits true cs else if b then exponent_digits false cs else exponent_digits false (c ∷ cs))
    by_test true b e f =
        let P : ℕ → Type 0 = λ k. Shown (mark ∷ k ∷ cs) (exponent_digits true cs) in subst P (sym (is_that c 45 e)) (digits_shown mark true (45 ∷ []) cs m written.minus)
    by_test false true e f =
        let P : ℕ → Type 0 = λ k. Shown (mark ∷ k ∷ cs) (exponent_digits false cs) in subst P (sym (is_that c 43 f)) (digits_shown mark false (43 ∷ []) cs m written.plus)
    by_test false false e f = digits_shown mark false [] (c ∷ cs) m written.unsigned

exponent_shown : (text : List ℕ) → Shown text (exponent_of text)
exponent_shown [] = written.no_exponent
exponent_shown (c ∷ cs) = by_test (c == 69) (c == 101) refl refl
  where
    by_test : (a b : Bool) → (c == 69) ≡ a → (c == 101) ≡ b → Shown (c ∷ cs) (if a || b then signed_exponent cs else None)
    by_test true b e f = let P : ℕ → Type 0 = λ k. Shown (k ∷ cs) (signed_exponent cs) in subst P (sym (is_that c 69 e)) (signed_shown 69 cs written.large)
    by_test false true e f = let P : ℕ → Type 0 = λ k. Shown (k ∷ cs) (signed_exponent cs) in subst P (sym (is_that c 101 f)) (signed_shown 101 cs written.small)
    by_test false false e f = tt

-- a number that is read is written so
abbrev Told : Word → Option Numeral → Type 0
Told w None = ⊤
Told w (Some n) = Writes n w

told_by : (w : Word) (whole : List ℕ) (fraction : List ℕ × List ℕ) (rest : List ℕ) → w ≡ whole ++ rest → AreDigits whole → PointBack rest fraction → Told w (numeral_by whole fraction)
told_by w whole fraction rest split all back = by_test (length whole + length fraction.0 == 0) refl (exponent_of fraction.1) (exponent_shown fraction.1)
  where
    by_test : (none : Bool) → (length whole + length fraction.0 == 0) ≡ none → (x : Option (Bool × List ℕ)) → Shown fraction.1 x
        → Told w (if none then None else option_map (λ e. record { whole = whole; fraction = fraction.0; negative = e.0; exponent = e.1 }) x)
    by_test true e x shown = tt
    by_test false e None shown = tt
    by_test false e (Some found) shown = record {
      fraction = back.text;
      exponent = fraction.1;
      whole_digits = all;
      fraction_written = back.written;
      some_digit = grind (arith, nat_tests);
      exponent_written = shown;
      parts = split ∙ ap (λ (xs : List ℕ). whole ++ xs) back.parts;
    }

numeral_told : (w : Word) → Told w (numeral_by (split_digits w).0 (split_fraction (split_digits w).1))
numeral_told w = told_by w (split_digits w).0 (split_fraction (split_digits w).1) (split_digits w).1 (split_back w) (front_digits w) (point_back (split_digits w).1)

told : (n : Numeral) (w : Word) → numeral_of w ≡ Some n → Writes n w
told n w e = subst (Told w) (sym (by_parts w) ∙ e) (numeral_told w)

pub reads_what_is_written : ReadsWhatIsWritten
reads_what_is_written n w = (read n w, told n w)
