-- The bits that a field writes, and its value.
use Rattle.std.proofs.Common.{◌≡◌, ℕ, ◌-◌, ◌*◌, ◌≤◌, min, Bool, true, false, not, cond, List, [], ◌∷◌, ◌++◌, length, take, replicate, reverse, Option, Some, None, Ok, refl, sym, ap, ◌∙◌, arith}
use Rattle.std.specs.List.{list_all, flat_map, prefix_len, position}
use Rattle.std.specs.Char.{is_ascii_hexdigit}
use Rattle.std.proofs.lemmas.Bool.Decides.{nat_tests}
use Rattle.std.proofs.lemmas.Grind.{flat_map-append}
use Rattle.std.proofs.lemmas.List.{reverse-append, take_min, append-nil, length-append}
use Rattle.jt_bits.specs.Hex.{is_white, is_bad, bits_of, binary, has_one_beyond, lowest, value_by}
use Rattle.jt_bits.specs.Lengths.{resized}
use Rattle.jt_bits.proofs.LengthLaws.{resized-take}
use Rattle.svf_words.specs.declared.fault.Code.TheVariants as code
use Rattle.svf_parse.specs.Sizes.{ValuesAreWritten}
use Rattle.svf_parse.specs.Judging.{bits, bits_written, field_fault}
use Rattle.svf_words.proofs.Digits.{and_true}

digit_is_no_white : (c : ℕ) → is_ascii_hexdigit c ≡ true → is_white c ≡ false
digit_is_no_white c h = grind (arith, nat_tests)

four : (c : ℕ) → is_ascii_hexdigit c ≡ true → length (bits_of c) ≡ 4
four c h = rw (digit_is_no_white c h) refl

pub binary-cons : (c : ℕ) (cs : List ℕ) → binary (c ∷ cs) ≡ binary cs ++ bits_of c
unfolding binary
binary-cons c cs = ap (flat_map bits_of) (reverse-append (c ∷ []) cs) ∙ flat_map-append bits_of (reverse cs) (c ∷ []) ∙ ap (λ (b : List Bool). flat_map bits_of (reverse cs) ++ b) (append-nil (bits_of c))

-- each digit is four binary digits
pub four_each : (h : List ℕ) → list_all is_ascii_hexdigit h ≡ true → length (binary h) ≡ 4 * length h
unfolding binary
four_each [] all = refl
four_each (c ∷ cs) all =
    let b = and_true (is_ascii_hexdigit c) (list_all is_ascii_hexdigit cs) all in
    let one = four c b.0 in
    let rest = four_each cs b.1 in
    ap length (binary-cons c cs) ∙ length-append (binary cs) (bits_of c) ∙ omega (arith, one, rest)

all_spelt : (n : ℕ) (h : List ℕ) → field_fault (Some n) (Some h) ≡ None → (list_all is_ascii_hexdigit h ≡ true) × (has_one_beyond n h ≡ false)
all_spelt n h e = by (list_all is_ascii_hexdigit h) (has_one_beyond n h) e
  where
    by : (a b : Bool) → cond (not a) (Some code.BadNumber) (cond b (Some code.TooWide) None) ≡ None → (a ≡ true) × (b ≡ false)
    by true true e = absurd cc
    by true false e = (refl, refl)
    by false b e = absurd cc

missing_none : (w : ℕ) (bits : List Bool) → w ≤ length bits → resized w bits ≡ take w bits
missing_none w bits le =
    let none : w - length bits ≡ 0 = omega arith in
    ap (λ (k : ℕ). take w bits ++ replicate k false) none ∙ append-nil (take w bits)

-- as many bits as the digits write, but none beyond the length, are those that are written
pub lowest_written : (n w : ℕ) (h : List ℕ) → field_fault (Some n) (Some h) ≡ None → w ≡ min (4 * length h) n → lowest w h ≡ bits_written n h
lowest_written n w h sound is =
    let all = all_spelt n h sound in
    let long : length (binary h) ≡ 4 * length h = four_each h all.0 in
    let least : w ≡ min n (length (binary h)) = omega (arith, is, long) in
    missing_none w (binary h) (omega (arith, least)) ∙ ap (λ (k : ℕ). take k (binary h)) least ∙ take_min n (binary h)

-- what the code answers of a field is the bits that are written
pub field_bits : (n w : ℕ) (o : Option (List ℕ)) (h : List ℕ) (b : List Bool) → o ≡ Some h → field_fault (Some n) o ≡ None → w ≡ min (4 * length h) n → b ≡ lowest w h → Some b ≡ bits n o
field_bits n w o h b is sound least e =
    let spelt : field_fault (Some n) (Some h) ≡ None = ap (field_fault (Some n)) (sym is) ∙ sound in
    ap Some (e ∙ lowest_written n w h spelt least) ∙ ap (bits n) (sym is)

-- the digits of a field without a fault are digits
pub field_digits : (n : ℕ) (o : Option (List ℕ)) (h : List ℕ) → o ≡ Some h → field_fault (Some n) o ≡ None → list_all is_ascii_hexdigit h ≡ true
field_digits n o h is sound = (all_spelt n h (ap (field_fault (Some n)) (sym is) ∙ sound)).0

-- ---- the value of a field

good_ahead : (h : List ℕ) → list_all is_ascii_hexdigit h ≡ true → prefix_len (λ c. not (is_bad c)) h ≡ length h
good_ahead [] all = refl
good_ahead (c ∷ cs) all =
    let b = and_true (is_ascii_hexdigit c) (list_all is_ascii_hexdigit cs) all in
    let rest = good_ahead cs b.1 in
    let good : is_bad c ≡ false = rw (b.0, digit_is_no_white c b.0) refl in
    rw good (omega (arith, rest))

none_bad : (h : List ℕ) → list_all is_ascii_hexdigit h ≡ true → position is_bad h ≡ None
none_bad h all = rw (good_ahead h all) (grind (arith, nat_tests))

pub values_are_written : ValuesAreWritten
values_are_written n h sound =
    let all = all_spelt n h sound in
    ap (λ (o : Option ℕ). value_by o h n) (none_bad h all.0) ∙ rw all.1 (ap Ok (sym (resized-take n (binary h))))
