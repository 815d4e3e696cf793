-- Text that is hexadecimal digits alone, sixteen of them at a time from its end.
use Rattle.std.proofs.Common.{◌≡◌, ℕ, suc, ◌+◌, ◌-◌, ◌*◌, ◌/◌, ◌%◌, ◌^◌, ◌<◌, ◌≤◌, ◌⊎◌, ⊎_elim, inl, inr, Bool, true, false, not, ◌||◌, List, [], ◌++◌, length, take, drop, get_or, None, refl, sym, ap, ◌∙◌, arith}
use Rattle.std.specs.Char.{digit_value, is_ascii_hexdigit}
use Rattle.std.specs.List.{list_all, list_any, position, position_or_len}
use Rattle.std.proofs.Math.Nat.{pow-suc, pow-le-pow_right}
use Rattle.std.proofs.lemmas.Bool.{cases_lt, and_parts}
use Rattle.std.proofs.lemmas.List.{take_more, length-append}
use Rattle.std.proofs.lemmas.List.Elements.{All-get_or}
use Rattle.std.proofs.lemmas.List.Folds.{list_all-append}
use Rattle.std.proofs.lemmas.List.Sums.{AllPass-from_list_all, position_or_len_is}
use Rattle.std.proofs.Math.ListN.{drop_of_length-le}
use Rattle.jt_bits.specs.Hex.{is_bad, is_white, four_bits, binary, has_one_beyond}
use Rattle.jt_bits.specs.Words.{number}
use Rattle.jt_bits.proofs.HexLaws.{beyond-none, beyond_short, binary-push, binary-none, digit_bits, drop-append}
use Rattle.jt_bits.proofs.Pieces.{Digit, Good, digit_is, hex_digit, number-append, number_four, binary-append, parts_of, good_long, none_past}

pub digit_at : (ds : List ℕ) (i : ℕ) → list_all is_ascii_hexdigit ds ≡ true → i < length ds → is_ascii_hexdigit (get_or ds i 0) ≡ true
digit_at ds i solid lt = All-get_or (λ d. is_ascii_hexdigit d ≡ true) ds i 0 lt (AllPass-from_list_all is_ascii_hexdigit ds solid)

pub is_digit : (c : ℕ) → is_ascii_hexdigit c ≡ true → Digit c
is_digit c h = digit_is c (hex_digit c h)

-- a digit more behind those that are read
pub value_more : (ds : List ℕ) (i value d : ℕ) → i < length ds → is_ascii_hexdigit (get_or ds i 0) ≡ true → value ≡ number (binary (take i ds)) → d ≡ digit_value (get_or ds i 0)
    → value * 16 + d ≡ number (binary (take (i + 1) ds))
value_more ds i value d lt good worth is =
    let c = get_or ds i 0 in
    let x = is_digit c good in
    let whole : number (binary (take (i + 1) ds)) ≡ number (four_bits (digit_value c)) + 16 * number (binary (take i ds)) =
    ap (λ (cs : List ℕ). number (binary cs)) (take_more ds i 0 lt) ∙ ap number (binary-push (take i ds) c) ∙ ap (λ (b : List Bool). number (b ++ binary (take i ds))) (digit_bits c x.black)
    ∙ number-append (four_bits (digit_value c)) (binary (take i ds)) in
    omega (arith, whole, number_four (digit_value c) x.small)

pub small_more : (i value d : ℕ) → value < 16 ^ i → d < 16 → value * 16 + d < 16 ^ (i + 1)
small_more i value d small low =
    let one : i + 1 ≡ suc i = omega arith in
    omega (arith, ap (λ (k : ℕ). 16 ^ k) one, pow-suc 16 i)

-- one digit more fits a word
pub room_more : (i value : ℕ) → value < 16 ^ i → i < 16 → value * 16 + 15 < 2 ^ 64
room_more i value small few =
    let most : 16 ^ suc i ≤ 16 ^ 16 = pow-le-pow_right {n = 16} (omega arith) {i = suc i} {j = 16} (omega arith) in
    omega (arith, pow-suc 16 i, most)

-- ---- a text without white space

good_all : (ds : List ℕ) → list_all is_ascii_hexdigit ds ≡ true → Good ds
good_all ds solid = λ k lt. hex_digit (get_or ds k 0) (digit_at ds k solid lt)

not_bad : (c : ℕ) → is_ascii_hexdigit c ≡ true → is_bad c ≡ false
not_bad c good = choose (is_white c) (is_ascii_hexdigit c) good
  where
    choose : (w h : Bool) → h ≡ true → not (w || h) ≡ false
    choose true h e = refl
    choose false true e = refl
    choose false false e = cc

all_front : (ds : List ℕ) → list_all is_ascii_hexdigit ds ≡ true → position_or_len is_bad ds ≡ length ds
all_front ds solid = position_or_len_is is_bad ds (length ds) 0 (omega arith) (λ k lt. not_bad (get_or ds k 0) (digit_at ds k solid lt)) (λ lt. absurd (omega arith))

pub solid_clean : (ds : List ℕ) → list_all is_ascii_hexdigit ds ≡ true → position is_bad ds ≡ None
solid_clean ds solid = none_past (position_or_len is_bad ds) (length ds) (omega (arith, all_front ds solid))

pub solid_front : (front piece text : List ℕ) → text ≡ front ++ piece → list_all is_ascii_hexdigit text ≡ true → (list_all is_ascii_hexdigit front ≡ true) × (list_all is_ascii_hexdigit piece ≡ true)
solid_front front piece text split solid =
    and_parts (list_all is_ascii_hexdigit front) (list_all is_ascii_hexdigit piece)
    (sym (ap (list_all is_ascii_hexdigit) split ∙ list_all-append is_ascii_hexdigit front piece) ∙ solid)

-- what stands at a text's end, sixteen digits or the whole of it
pub record LastOf (front piece text : List ℕ) : Type 0 where
  pub worth : number (binary piece) ≡ number (take 64 (binary text))
  pub rest_is : binary front ≡ drop 64 (binary text)

pub last_solid : (front piece text : List ℕ) → text ≡ front ++ piece → length front ≡ length text - 16 → list_all is_ascii_hexdigit text ≡ true → LastOf front piece text
last_solid front piece text split at solid =
    let good = solid_front front piece text split solid in
    let long : length text ≡ length front + length piece = ap length split ∙ length-append front piece in
    let bits : length (binary piece) ≡ 4 * length piece = good_long piece (good_all piece good.1) in
    let whole : binary text ≡ binary piece ++ binary front = ap binary split ∙ binary-append front piece in
    let parts = parts_of (binary piece) (binary front) (16 - length piece) (omega arith) (omega arith)
    (⊎_elim
    (λ (less : length text < 16). inr (binary-none front (omega arith)))
    (λ (more : 16 ≤ length text). inl (omega arith))
    (cases_lt (length text) 16)) in
    record {
      worth = ap number (sym parts.0) ∙ ap (λ (b : List Bool). number (take 64 b)) (sym whole);
      rest_is = sym parts.2 ∙ ap (drop 64) (sym whole);
    }

-- of digits alone, those that lie below as a whole have nothing beyond
pub beyond_high : (n : ℕ) (high low text : List ℕ) → text ≡ high ++ low → length high ≡ length text - n / 4 → list_all is_ascii_hexdigit text ≡ true
    → has_one_beyond (n % 4) high ≡ has_one_beyond n text
beyond_high n high low text split at solid = by (cases_lt (length text) (n / 4))
  where
    by : (length text < n / 4) ⊎ (n / 4 ≤ length text) → has_one_beyond (n % 4) high ≡ has_one_beyond n text
    by (inl less) = beyond-none (n % 4) high (omega (arith, at, less)) ∙ sym (beyond_short n text (omega (arith, less)))
    by (inr more) =
        let below : length low ≡ n / 4 = omega (arith, at, more, ap length split ∙ length-append high low) in
        let bits : length (binary low) ≡ 4 * length low = good_long low (good_all low (solid_front high low text split solid).1) in
        let left : n % 4 ≡ n - length (binary low) = omega (arith, below, bits) in
        let none : drop n (binary low) ≡ [] = drop_of_length-le (binary low) (omega (arith, below, bits)) in
        ap (λ (k : ℕ). list_any (λ bit. bit) (drop k (binary high))) left
        ∙ sym (ap (λ (b : List Bool). list_any (λ bit. bit) (drop n b)) (ap binary split ∙ binary-append high low)
        ∙ ap (list_any (λ bit. bit)) (drop-append n (binary low) (binary high) ∙ ap (λ (b : List Bool). b ++ drop (n - length (binary low)) (binary high)) none))
