-- Sixteen digits of hexadecimal text at a time, from its end, and the bytes that they spell.
use Rattle.std.proofs.Common.{◌≡◌, ◌≢◌, ℕ, zero, suc, ◌+◌, ◌-◌, ◌*◌, ◌/◌, ◌%◌, ◌^◌, ◌<◌, ◌≤◌, ◌⊎◌, ⊎_elim, inl, inr, Bool, true, false, not, ◌||◌, ◌&&◌, ◌==◌, eqb, cond, nat_lt, nat_le, if◌then◌else◌, List, [], ◌∷◌, ◌++◌, length, take, drop, get_or, set, replicate, reverse, Some, None, is_some, Result, Ok, Err, refl, sym, ap, ◌∙◌, arith, append_assoc}
use Rattle.std.specs.Char.{digit_value, is_ascii_hexdigit}
use Rattle.std.specs.Int.{from_be_bytes, w64}
use Rattle.std.specs.List.{flat_map, position, position_or_len, AllPass}
use Rattle.std.proofs.Math.Nat.{pow-suc}
use Rattle.std.proofs.lemmas.Nat.{pow-add}
use Rattle.std.proofs.lemmas.Bool.{cases_eq, cases_lt}
use Rattle.std.proofs.lemmas.Bool.Decides.{nat_tests}
use Rattle.std.proofs.lemmas.List.{append-nil, drop-drop, replicate-append-replicate, reverse-append, length-append, length-replicate, length-take, length-drop, length-set, take-append-drop, drop-set, drop_all, take_all, get_or-replicate, get_or-set_same, get_or-set_other, get_or-take, get_or-drop}
use Rattle.std.proofs.lemmas.List.Elements.{All-from_get_or, All-get_or}
use Rattle.std.proofs.Math.Seq.{take-append_seam, drop-append_seam}
use Rattle.std.proofs.lemmas.List.Concat.{flat_map-append}
use Rattle.std.proofs.lemmas.List.Folds.{position_or_len_push}
use Rattle.std.proofs.lemmas.List.Sums.{prefix_len-le-length}
use Rattle.hex.specs.Hex.{hex_digit_value, is_hex_digit, decode_pairs, decode_sized, pair_value, ◌>>=◌}
use Rattle.hex.specs.declared.error.FromHexError.{FromHexError}
use Rattle.hex.specs.declared.error.FromHexError.TheVariants.{OddLength, InvalidStringLength}
use Rattle.hex.proofs.Pairs.{decode_pairs-ok_pair}
use Rattle.jt_bits.specs.Hex.{is_white, is_bad, bits_of, four_bits, binary}
use Rattle.jt_bits.specs.Lengths.{resized}
use Rattle.jt_bits.specs.Words.{number, word_of, word_from}
use Rattle.jt_bits.proofs.HexLaws.{binary-push, binary-none, white_bits, digit_bits}

-- ---- digits

pub good_digit : (c : ℕ) → is_bad c ≡ false → is_white c ≡ false → is_ascii_hexdigit c ≡ true
good_digit c fine black = choose (is_white c) (is_ascii_hexdigit c) fine black
  where
    choose : (w h : Bool) → not (w || h) ≡ false → w ≡ false → h ≡ true
    choose true h e f = cc
    choose false true e f = refl
    choose false false e f = cc

-- a hexadecimal digit by the tables of this crate and of hex
pub record Digit (c : ℕ) : Type 0 where
  pub value : hex_digit_value c ≡ Some (digit_value c)
  pub small : digit_value c < 16
  pub black : is_white c ≡ false

pub digit_is : (c : ℕ) → is_hex_digit c ≡ true → Digit c
digit_is c h = record {
  value = grind (arith, nat_tests);
  small = grind (arith, nat_tests);
  black = grind (arith, nat_tests);
}

pub hex_digit : (c : ℕ) → is_ascii_hexdigit c ≡ true → is_hex_digit c ≡ true
hex_digit c h = choose (nat_le 65 c && nat_le c 70) (nat_le 97 c && nat_le c 102) (nat_le 48 c && nat_le c 57) h
  where
    choose : (a b d : Bool) → ((d || a) || b) ≡ true → is_some (if a then Some (c - 55) else if b then Some (c - 87) else if d then Some (c - 48) else None) ≡ true
    choose true b d e = refl
    choose false true d e = refl
    choose false false true e = refl
    choose false false false e = cc

-- ---- no bad byte

past_end : (m len : ℕ) → (if nat_lt m len then Some m else None) ≡ None → len ≤ m
past_end m len none = ⊎_elim
    (λ less.
    let t : nat_lt m len ≡ true = grind (arith, nat_tests) in
    absurd (impossible (sym (rw t at none))))
    (λ past. past)
    (cases_lt m len)
  where
    impossible : None ≡ Some m → ⊥
    impossible e = cc

pub none_past : (m len : ℕ) → len ≤ m → (if nat_lt m len then Some m else None) ≡ None
none_past m len past = let t : nat_lt m len ≡ false = grind (arith, nat_tests) in rw t refl

eq_test : (a b : ℕ) → a ≡ b → eqb a b ≡ true
eq_test a b e = grind (arith, nat_tests)

ne_test : (a b : ℕ) → a ≢ b → eqb a b ≡ false
ne_test a b e = grind (arith, nat_tests)

pub clean_push : (front : List ℕ) (c : ℕ) → position is_bad (front ++ c ∷ []) ≡ None → (position is_bad front ≡ None) × (is_bad c ≡ false)
clean_push front c clean =
    let n = position_or_len is_bad front in
    let all = length front in
    let most : n ≤ all = prefix_len-le-length (λ x. not (is_bad x)) front in
    let past : length (front ++ c ∷ []) ≤ position_or_len is_bad (front ++ c ∷ []) = past_end (position_or_len is_bad (front ++ c ∷ [])) (length (front ++ c ∷ [])) clean in
    let long : length (front ++ c ∷ []) ≡ all + 1 = length-append front (c ∷ []) in
    let is = position_or_len_push is_bad front c in
    ⊎_elim
    (λ (e : n ≡ all).
    let here : position_or_len is_bad (front ++ c ∷ []) ≡ all + cond (is_bad c) 0 1 = is ∙ ap (λ (b : Bool). cond b (all + cond (is_bad c) 0 1) n) (eq_test n all e) in
    (none_past n all (omega arith), last (is_bad c) all (omega (arith, here, past, long))))
    (λ apart.
    let here : position_or_len is_bad (front ++ c ∷ []) ≡ n = is ∙ ap (λ (b : Bool). cond b (all + cond (is_bad c) 0 1) n) (ne_test n all apart) in
    absurd (omega (arith, here, past, long, most)))
    (cases_eq n all)
  where
    last : (b : Bool) (m : ℕ) → m + 1 ≤ m + cond b 0 1 → b ≡ false
    last true m h = absurd (omega arith)
    last false m h = refl

-- ---- the number that binary digits spell

pub number-append : (xs ys : List Bool) → number (xs ++ ys) ≡ number xs + 2 ^ length xs * number ys
number-append [] ys = omega arith
number-append (true ∷ xs) ys = omega (arith, number-append xs ys, ap (λ (m : ℕ). m * number ys) (pow-suc 2 (length xs)))
number-append (false ∷ xs) ys = omega (arith, number-append xs ys, ap (λ (m : ℕ). m * number ys) (pow-suc 2 (length xs)))

number_zeros : (n : ℕ) → number (replicate n false) ≡ 0
number_zeros zero = refl
number_zeros (suc n) = let h = number_zeros n in omega (arith, h)

pub number_four : (v : ℕ) → v < 16 → number (four_bits v) ≡ v
number_four v h =
    let a = one (v % 2) (omega arith) in
    let b = one (v / 2 % 2) (omega arith) in
    let d = one (v / 4 % 2) (omega arith) in
    let e = one (v / 8 % 2) (omega arith) in
    omega (arith, a, b, d, e)
  where
    one : (m : ℕ) → m < 2 → (if m == 1 then 1 else 0) ≡ m
    one zero h = refl
    one (suc zero) h = refl
    one (suc (suc m)) h = absurd (omega arith)

pub binary-front : (c : ℕ) (cs : List ℕ) → binary (c ∷ cs) ≡ binary cs ++ bits_of c
unfolding binary
binary-front c cs =
    ap (flat_map bits_of) (reverse-append (c ∷ []) cs) ∙ flat_map-append bits_of (reverse cs) (c ∷ []) ∙ ap (λ (b : List Bool). flat_map bits_of (reverse cs) ++ b) (append-nil (bits_of c))

pub binary-append : (xs ys : List ℕ) → binary (xs ++ ys) ≡ binary ys ++ binary xs
unfolding binary
binary-append xs ys = ap (flat_map bits_of) (reverse-append xs ys) ∙ flat_map-append bits_of (reverse ys) (reverse xs)

-- ---- sixteen digits as eight bytes

-- bytes as a number, the highest first
abbrev pub big : List ℕ → ℕ
big [] = 0
big (b ∷ bs) = b * 256 ^ length bs + big bs

pub record Decoded (i : ℕ) (ds : List ℕ) (n : ℕ) : Type 0 where
  pub bytes : List ℕ
  pub is : decode_pairs i ds ≡ Ok bytes
  pub long : length bytes ≡ n
  pub spells : length (binary ds) ≡ 8 * n
  pub worth : big bytes ≡ number (binary ds)
  pub pairs : (k : ℕ) → k < n → get_or bytes k 0 ≡ digit_value (get_or ds (2 * k) 0) * 16 + digit_value (get_or ds (2 * k + 1) 0)

abbrev pub Good : List ℕ → Type 0
Good ds = (k : ℕ) → k < length ds → is_hex_digit (get_or ds k 0) ≡ true

-- two digits before others
two : (a b : ℕ) (rest : List ℕ) → Digit a → Digit b → binary (a ∷ b ∷ rest) ≡ (binary rest ++ four_bits (digit_value b)) ++ four_bits (digit_value a)
two a b rest x y =
    binary-front a (b ∷ rest) ∙ ap (λ (t : List Bool). t ++ bits_of a) (binary-front b rest)
    ∙ ap (λ (t : List Bool). (binary rest ++ bits_of b) ++ t) (digit_bits a x.black)
    ∙ ap (λ (t : List Bool). (binary rest ++ t) ++ four_bits (digit_value a)) (digit_bits b y.black)

pair : (a b i : ℕ) → Digit a → Digit b → pair_value a b i ≡ Ok (digit_value a * 16 + digit_value b)
pair a b i x y = rw (x.value, y.value) refl

power : (n : ℕ) → 2 ^ (8 * n) ≡ 256 ^ n
power zero = refl
power (suc n) =
    let step : 8 * suc n ≡ 8 * n + 8 = omega arith in
    ap (λ (k : ℕ). 2 ^ k) step ∙ pow-add 2 (8 * n) 8 ∙ omega (arith, power n, pow-suc 256 n)

pairs_more : (a b : ℕ) (rest bytes : List ℕ) (n : ℕ)
    → ((k : ℕ) → k < n → get_or bytes k 0 ≡ digit_value (get_or rest (2 * k) 0) * 16 + digit_value (get_or rest (2 * k + 1) 0))
    → (k : ℕ) → k < suc n → get_or ((digit_value a * 16 + digit_value b) ∷ bytes) k 0
    ≡ digit_value (get_or (a ∷ b ∷ rest) (2 * k) 0) * 16 + digit_value (get_or (a ∷ b ∷ rest) (2 * k + 1) 0)
pairs_more a b rest bytes n later zero lt = refl
pairs_more a b rest bytes n later (suc k) lt =
    let first : suc (suc (2 * k)) ≡ 2 * suc k = omega arith in
    let second : suc (suc (2 * k + 1)) ≡ 2 * suc k + 1 = omega arith in
    later k (omega arith) ∙ ap (λ (j : ℕ). digit_value (get_or (a ∷ b ∷ rest) j 0) * 16 + digit_value (get_or rest (2 * k + 1) 0)) first
    ∙ ap (λ (j : ℕ). digit_value (get_or (a ∷ b ∷ rest) (2 * suc k) 0) * 16 + digit_value (get_or (a ∷ b ∷ rest) j 0)) second

pub decoded : (n i : ℕ) (ds : List ℕ) → length ds ≡ 2 * n → Good ds → Decoded i ds n
unfolding decode_pairs
decoded zero i [] e good = record {
  bytes = [];
  is = refl;
  long = refl;
  spells = ap length (binary-none [] refl);
  worth = sym (ap number (binary-none [] refl));
  pairs = λ k lt. absurd (omega arith);
}
decoded zero i (d ∷ ds) e good = absurd (omega arith)
decoded (suc n) i [] e good = absurd (omega arith)
decoded (suc n) i (d ∷ []) e good = absurd (omega arith)
decoded (suc n) i (a ∷ b ∷ rest) e good =
    let x = digit_is a (good 0 (omega arith)) in
    let y = digit_is b (good 1 (omega arith)) in
    let later = decoded n (i + 2) rest (omega arith) (λ k h. good (suc (suc k)) (omega arith)) in
    let high = digit_value a in
    let low = digit_value b in
    let v = high * 16 + low in
    let low_part = binary rest ++ four_bits low in
    let low_long : length low_part ≡ 8 * n + 4 = length-append (binary rest) (four_bits low) ∙ omega (arith, later.spells) in
    let low_worth : number low_part ≡ number (binary rest) + 256 ^ n * low =
    number-append (binary rest) (four_bits low) ∙ ap (λ (m : ℕ). number (binary rest) + m * number (four_bits low)) (ap (λ (k : ℕ). 2 ^ k) later.spells ∙ power n)
    ∙ ap (λ (m : ℕ). number (binary rest) + 256 ^ n * m) (number_four low y.small) in
    let whole : number (binary (a ∷ b ∷ rest)) ≡ number low_part + 2 ^ (8 * n + 4) * high =
    ap number (two a b rest x y) ∙ number-append low_part (four_bits high) ∙ ap (λ (k : ℕ). number low_part + 2 ^ k * number (four_bits high)) low_long
    ∙ ap (λ (m : ℕ). number low_part + 2 ^ (8 * n + 4) * m) (number_four high x.small) in
    let p : 2 ^ (8 * n + 4) * high ≡ 256 ^ n * 16 * high = ap (λ (m : ℕ). m * high) (pow-add 2 (8 * n) 4 ∙ ap (λ (m : ℕ). m * 16) (power n)) in
    let q : 256 ^ length later.bytes ≡ 256 ^ n = ap (λ (k : ℕ). 256 ^ k) later.long in
    record {
      bytes = v ∷ later.bytes;
      is = decode_pairs-ok_pair i a b v rest (pair a b i x y) ∙ ap (λ (r : Result (List ℕ) FromHexError). r >>= (λ bs. Ok (v ∷ bs))) later.is;
      long = omega (arith, later.long);
      spells = ap length (two a b rest x y) ∙ length-append low_part (four_bits high) ∙ omega (arith, low_long);
      worth = omega (arith, ap (λ (m : ℕ). v * m) q, later.worth, whole, p, low_worth);
      pairs = pairs_more a b rest later.bytes n later.pairs;
    }

pub be_big : (bs : List ℕ) → length bs ≡ 8 → from_be_bytes w64 bs ≡ big bs
be_big [] e = absurd (omega arith)
be_big (a ∷ []) e = absurd (omega arith)
be_big (a ∷ b ∷ []) e = absurd (omega arith)
be_big (a ∷ b ∷ c ∷ []) e = absurd (omega arith)
be_big (a ∷ b ∷ c ∷ d ∷ []) e = absurd (omega arith)
be_big (a ∷ b ∷ c ∷ d ∷ f ∷ []) e = absurd (omega arith)
be_big (a ∷ b ∷ c ∷ d ∷ f ∷ g ∷ []) e = absurd (omega arith)
be_big (a ∷ b ∷ c ∷ d ∷ f ∷ g ∷ h ∷ []) e = absurd (omega arith)
be_big (a ∷ b ∷ c ∷ d ∷ f ∷ g ∷ h ∷ i ∷ []) e = omega arith
be_big (a ∷ b ∷ c ∷ d ∷ f ∷ g ∷ h ∷ i ∷ j ∷ bs) e = absurd (omega arith)

-- what hex answers for sixteen digits
pub decoded_sixteen : (ds : List ℕ) → length ds ≡ 16 → Good ds → (d : Decoded 0 ds 8) × (decode_sized ds 8 ≡ Ok d.bytes)
decoded_sixteen ds long good =
    let d = decoded 8 0 ds long good in
    (d, ap sized long ∙ d.is)
  where
    sized : ℕ → Result (List ℕ) FromHexError
    sized n = if n % 2 == 1 then Err OddLength else if n / 2 == 8 then decode_pairs 0 ds else Err InvalidStringLength

-- ---- the last sixteen digits of a text

-- so far: the places from `left` on have the last digits of the text
pub record Reading (digits rest text : List ℕ) (left : ℕ) : Type 0 where
  pub sixteen : length digits ≡ 16
  pub few : left ≤ 16
  pub zeros : (k : ℕ) → k < left → get_or digits k 0 ≡ 48
  pub good : (k : ℕ) → left ≤ k → k < 16 → is_hex_digit (get_or digits k 0) ≡ true
  pub whole : binary (drop left digits) ++ binary rest ≡ binary text
  pub clean : position is_bad rest ≡ None

pub reading_none : (digits text : List ℕ) → digits ≡ replicate 16 48 → position is_bad text ≡ None → Reading digits text text 16
reading_none digits text are clean =
    let long : length digits ≡ 16 = ap length are ∙ length-replicate {A = ℕ} 16 48 in
    record {
      sixteen = long;
      few = omega arith;
      zeros = λ k h. ap (λ (ds : List ℕ). get_or ds k 0) are ∙ get_or-replicate 16 k 48 0 h;
      good = λ k low high. absurd (omega arith);
      whole = ap (λ (b : List Bool). b ++ binary text) (ap binary (drop_all 16 digits (omega arith)) ∙ binary-none [] refl);
      clean = clean;
    }

pub reading_white : (digits rest front text : List ℕ) (left c : ℕ) → rest ≡ front ++ c ∷ [] → is_white c ≡ true → Reading digits rest text left → Reading digits front text left
reading_white digits rest front text left c is white so_far = record {
  sixteen = so_far.sixteen;
  few = so_far.few;
  zeros = so_far.zeros;
  good = so_far.good;
  whole =
      ap (λ (b : List Bool). binary (drop left digits) ++ b) (sym (ap binary is ∙ binary-push front c ∙ ap (λ (b : List Bool). b ++ binary front) (white_bits c white))) ∙ so_far.whole;
  clean = (clean_push front c (ap (position is_bad) (sym is) ∙ so_far.clean)).0;
}

pub reading_digit : (digits rest front text : List ℕ) (left next c : ℕ) → rest ≡ front ++ c ∷ [] → is_white c ≡ false → 0 < left → next ≡ left - 1 → Reading digits rest text left
    → Reading (set digits next c) front text next
reading_digit digits rest front text left next c is black some less so_far =
    let parts = clean_push front c (ap (position is_bad) (sym is) ∙ so_far.clean) in
    let in_ : next < length digits = omega (arith, so_far.sixteen, so_far.few) in
    let after = drop (next + 1) digits in
    let same : next + 1 ≡ left = omega arith in
    record {
      sixteen = length-set digits next c ∙ so_far.sixteen;
      few = omega (arith, so_far.few);
      zeros = λ k h. get_or-set_other digits next k c 0 (λ (e : k ≡ next). omega arith) ∙ so_far.zeros k (omega arith);
      good = λ k low high. ⊎_elim
          (λ (e : k ≡ next).
          ap (λ (n : ℕ). is_hex_digit (get_or (set digits next c) n 0)) e ∙ ap is_hex_digit (get_or-set_same digits next c 0 in_) ∙ hex_digit c (good_digit c parts.1 black))
          (λ apart. ap is_hex_digit (get_or-set_other digits next k c 0 apart) ∙ so_far.good k (omega arith) high)
          (cases_eq k next);
      whole =
          ap (λ (ds : List ℕ). binary ds ++ binary front) (drop-set digits next c in_)
          ∙ ap (λ (b : List Bool). b ++ binary front) (binary-front c after)
          ∙ append_assoc (binary after) (bits_of c) (binary front)
          ∙ ap (λ (b : List Bool). binary after ++ b) (sym (ap binary is ∙ binary-push front c))
          ∙ ap (λ (n : ℕ). binary (drop n digits) ++ binary rest) same
          ∙ so_far.whole;
      clean = parts.0;
    }

pub good_long : (ds : List ℕ) → Good ds → length (binary ds) ≡ 4 * length ds
good_long [] good = ap length (binary-none [] refl)
good_long (d ∷ ds) good =
    let x = digit_is d (good 0 (omega arith)) in
    let later = good_long ds (λ k h. good (suc k) (omega arith)) in
    ap length (binary-front d ds ∙ ap (λ (b : List Bool). binary ds ++ b) (digit_bits d x.black)) ∙ length-append (binary ds) (four_bits (digit_value d)) ∙ omega (arith, later)

zeros_binary : (ds : List ℕ) → ((k : ℕ) → k < length ds → get_or ds k 0 ≡ 48) → binary ds ≡ replicate (4 * length ds) false
zeros_binary [] zeros = binary-none [] refl
zeros_binary (d ∷ ds) zeros =
    let later = zeros_binary ds (λ k h. zeros (suc k) (omega arith)) in
    let is : d ≡ 48 = zeros 0 (omega arith) in
    let more : 4 * suc (length ds) ≡ 4 * length ds + 4 = omega arith in
    binary-front d ds ∙ ap (λ (b : List Bool). b ++ bits_of d) later ∙ ap (λ (c : ℕ). replicate (4 * length ds) false ++ bits_of c) is
    ∙ (replicate-append-replicate (4 * length ds) 4 false) ∙ ap (λ (n : ℕ). replicate n false) (sym more)

-- what the reading makes of the text, once sixteen digits are read or the text is at its end
pub parts_of : (read rest : List Bool) (left : ℕ) → length read ≡ 64 - 4 * left → left ≤ 16 → (left ≡ 0) ⊎ (rest ≡ [])
    → (take 64 (read ++ rest) ≡ read) × (64 - length (read ++ rest) ≡ 4 * left) × (drop 64 (read ++ rest) ≡ rest)
parts_of read rest left long few done = ⊎_elim
    (λ (all : left ≡ 0).
    let is : 64 ≡ length read = omega arith in (
      ap (λ (n : ℕ). take n (read ++ rest)) is ∙ take-append_seam read rest,
      omega (arith, length-append read rest),
      ap (λ (n : ℕ). drop n (read ++ rest)) is ∙ drop-append_seam read rest,
    ))
    (λ (end : rest ≡ []).
    let whole : read ++ rest ≡ read = ap (λ (b : List Bool). read ++ b) end ∙ append-nil read in (
      ap (take 64) whole ∙ take_all 64 read (omega arith),
      omega (arith, ap length whole),
      ap (drop 64) whole ∙ drop_all 64 read (omega arith) ∙ sym end,
    ))
    done

pub record PieceOf (digits rest text : List ℕ) : Type 0 where
  pub good : AllPass is_hex_digit digits
  pub spelled : binary digits ≡ resized 64 (binary text)
  pub rest_is : binary rest ≡ drop 64 (binary text)

pub reading_done : (digits rest text : List ℕ) (left : ℕ) → (left ≡ 0) ⊎ (length rest ≡ 0) → Reading digits rest text left → PieceOf digits rest text
reading_done digits rest text left done so_far =
    let before = take left digits in
    let read = drop left digits in
    let read_long : length read ≡ 16 - left = length-drop left digits ∙ omega (arith, so_far.sixteen) in
    let before_long : length before ≡ left = length-take left digits ∙ omega (arith, so_far.sixteen, so_far.few) in
    let good : Good read = λ k h. ap is_hex_digit (get_or-drop left digits k 0) ∙ so_far.good (left + k) (omega arith) (omega arith) in
    let zeros : binary before ≡ replicate (4 * left) false =
    zeros_binary before (λ k h. get_or-take left digits k 0 (omega arith) ∙ so_far.zeros k (omega arith)) ∙ ap (λ (n : ℕ). replicate (4 * n) false) before_long in
    let spelled : binary digits ≡ binary read ++ replicate (4 * left) false =
    ap binary (sym (take-append-drop left digits)) ∙ binary-append before read ∙ ap (λ (b : List Bool). binary read ++ b) zeros in
    let parts = parts_of (binary read) (binary rest) left (good_long read good ∙ omega arith) so_far.few
    (⊎_elim (λ all. inl all) (λ end. inr (binary-none rest end)) done) in
    let whole = so_far.whole in
    record {
      good = All-from_get_or (λ d. is_hex_digit d ≡ true) digits 0 (λ k h. ⊎_elim
          (λ low. ap is_hex_digit (so_far.zeros k low))
          (λ high. so_far.good k high (omega (arith, so_far.sixteen)))
          (cases_lt k left));
      spelled =
          spelled
          ∙ ap (λ (b : List Bool). b ++ replicate (4 * left) false) (sym parts.0)
          ∙ ap (λ (n : ℕ). take 64 (binary read ++ binary rest) ++ replicate n false) (sym parts.1)
          ∙ ap (resized 64) whole;
      rest_is = sym parts.2 ∙ ap (drop 64) whole;
    }

number_resized : (n : ℕ) (bits : List Bool) → number (resized n bits) ≡ number (take n bits)
number_resized n bits =
    number-append (take n bits) (replicate (n - length bits) false)
    ∙ omega (arith, ap (λ (m : ℕ). 2 ^ length (take n bits) * m) (number_zeros (n - length bits)))

-- what sixteen digits are worth, led by 0 where there are fewer
pub piece_worth : (digits text : List ℕ) → binary digits ≡ resized 64 (binary text) → number (binary digits) ≡ number (take 64 (binary text))
piece_worth digits text spelled = ap number spelled ∙ number_resized 64 (binary text)

-- the next word of a text
pub piece_word : (rest text : List ℕ) (value k : ℕ) → value ≡ number (take 64 (binary rest)) → binary rest ≡ drop (64 * k) (binary text) → value ≡ word_of (binary text) k
unfolding word_of word_from
piece_word rest text value k is at = is ∙ ap (λ (b : List Bool). number (take 64 b)) at

pub piece_rest : (next rest text : List ℕ) (k m : ℕ) → binary next ≡ drop 64 (binary rest) → binary rest ≡ drop (64 * k) (binary text) → m ≡ k + 1 → binary next ≡ drop (64 * m) (binary text)
piece_rest next rest text k m is at more =
    let on : 64 * k + 64 ≡ 64 * m = omega arith in
    is ∙ ap (drop 64) at ∙ drop-drop 64 (64 * k) (binary text) ∙ ap (λ (n : ℕ). drop n (binary text)) on

pub good_digits : (ds : List ℕ) → AllPass is_hex_digit ds → Good ds
good_digits ds all = λ k h. All-get_or (λ d. is_hex_digit d ≡ true) ds k 0 h all
