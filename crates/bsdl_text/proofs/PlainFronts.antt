-- No byte among plain bytes is bad, so the first bad byte of a text stands behind them.
use Rattle.std.proofs.Common.{◌≡◌, ℕ, zero, suc, ◌+◌, ◌<◌, ◌≤◌, Bool, Option, Some, None, Bor, true, false, cond, not, nat_eq, ◌&&◌, ◌||◌, List, [], ◌∷◌, length, drop, get_or, refl, sym, ap, ◌∙◌, subst, inl, inr, arith}
use Rattle.std.proofs.lemmas.Bool.{eqb-true, and_parts, and_cases, or_parts, or_cases, not-true, not-false, both_ways}
use Rattle.std.proofs.lemmas.Bool.Decides.{nat_tests}
use Rattle.std.proofs.lemmas.List.{get_or_past, get_or_default}
use Rattle.std.specs.List.{prefix_len, HoldsAt}
use Rattle.std.specs.Option.{option_eq, IfSome, MatchOption}
use Rattle.bsdl_text.specs.declared.tokens.Kind.TheVariants as kind
use Rattle.bsdl_text.specs.declared.tokens.scan.Front.{Front}
use Rattle.bsdl_text.specs.declared.tokens.scan.Front.TheVariants.{Gap, Token}
use Rattle.token_runs.specs.Bytes.{is_white}
use Rattle.bsdl_text.specs.Bytes.{begins_word, is_word, begins_number, is_number, is_mark, begins_comment, begins_string}
use Rattle.bsdl_text.specs.Cutting.{Cut, cut, front, behind, with_front, bad_place}
use Rattle.bsdl_text.specs.Plain.{HasNoBad, is_plain, is_plain_behind, plain_len}
use Rattle.bsdl_text.proofs.Steps.{cut-nil}

-- ---- bytes

white_is_no_word : (c : ℕ) → is_white c ≡ true → is_word c ≡ false
white_is_no_word c is = grind (arith, nat_tests)

mark_is_no_word : (c : ℕ) → is_mark c ≡ true → is_word c ≡ false
mark_is_no_word c is = grind (arith, nat_tests)

no_word_no_line : (c : ℕ) → is_word c ≡ false → nat_eq c 95 ≡ false
no_word_no_line c is = grind (arith, nat_tests)

no_number_no_line : (c : ℕ) → is_number c ≡ false → nat_eq c 95 ≡ false
no_number_no_line c is = grind (arith, nat_tests)

no_number_no_word : (c : ℕ) → is_number c ≡ false → is_word c ≡ false
no_number_no_word c is = grind (arith, nat_tests)

-- a byte that is neither plain nor `_` ends a number
not_plain : (c : ℕ) → is_plain c ≡ false → nat_eq c 95 ≡ false → is_number c ≡ false
not_plain c is no_line = grind (arith, nat_tests)

plain_is_no_quote : (c : ℕ) → is_plain c ≡ true → nat_eq c 34 ≡ false
plain_is_no_quote c is = grind (arith, nat_tests)

-- what else a plain byte is
rest_is_mark : (c : ℕ) → is_plain c ≡ true → is_white c ≡ false → begins_word c ≡ false → begins_number c ≡ false → is_mark c ≡ true
rest_is_mark c is no_white no_word no_number = grind (arith, nat_tests)

no_string : (q : Bool) (c : ℕ) → nat_eq c 34 ≡ false → begins_string q c ≡ false
no_string true c no_quote = refl
no_string false c no_quote = rw no_quote refl

-- ---- what stands at the front

-- what of the bytes behind b belongs to what was cut before: what a word or a number goes on with, or nothing
data Skips (b : ℕ) (cs : List ℕ) (k : ℕ) : Type 0 where
  word : k ≡ prefix_len is_word cs → Skips b cs k
  number : k ≡ prefix_len is_number cs → Skips b cs k
  nothing : k ≡ 0 → is_word b ≡ false → Skips b cs k

more_passes : (b : Bool) (n k : ℕ) → suc k ≡ cond b (1 + n) 0 → (b ≡ true) × (k ≡ n)
more_passes true n k is = (refl, omega (arith, is))
more_passes false n k is = absurd (omega (arith, is))

none_passes : (b : Bool) (n : ℕ) → ◌≡◌ {A = ℕ} 0 (cond b (1 + n) 0) → b ≡ false
none_passes true n is = absurd (omega (arith, is))
none_passes false n is = refl

shorter : (b c : ℕ) (cs : List ℕ) (k : ℕ) → Skips b (c ∷ cs) (suc k) → Skips c cs k
shorter b c cs k (word is) = word (more_passes (is_word c) (prefix_len is_word cs) k is).1
shorter b c cs k (number is) = number (more_passes (is_number c) (prefix_len is_number cs) k is).1
shorter b c cs k (nothing is no_word) = absurd (omega (arith, is))

-- what is cut at the front is no bad byte, and what it skips
abbrev Passes : Front → ℕ → List ℕ → Type 0
Passes f c cs = Skips c cs (behind f) × ((at : ℕ) (cuts : List Cut) → bad_place (with_front f at c cs cuts) ≡ bad_place cuts)

module _ (q : Bool) (c : ℕ) (cs : List ℕ) (plain : is_plain c ≡ true) (no_gap : begins_comment q c cs ≡ false) where
  no_text : begins_string q c ≡ false
  no_text = no_string q c (plain_is_no_quote c plain)

  along : (f : Front) → front q c cs ≡ f → Passes f c cs → Passes (front q c cs) c cs
  along f is passes = subst (λ (g : Front). Passes g c cs) (sym is) passes

  front_by : (w b n : Bool) → is_white c ≡ w → begins_word c ≡ b → begins_number c ≡ n → Passes (front q c cs) c cs
  front_by true b n white letter digit = along (Gap 0) (rw white refl) (nothing refl (white_is_no_word c white), λ at cuts. refl)
  front_by false true n white letter digit = along (Token kind.Word (prefix_len is_word cs)) (rw (white, no_gap, no_text, letter) refl) (word refl, λ at cuts. refl)
  front_by false false true white letter digit =
      along (Token kind.Number (prefix_len is_number cs)) (rw (white, no_gap, no_text, letter, digit) refl) (number refl, λ at cuts. refl)
  front_by false false false white letter digit =
      let mark = rest_is_mark c plain white letter digit in
      along (Token kind.Mark 0) (rw (white, no_gap, no_text, letter, digit, mark) refl) (nothing refl (mark_is_no_word c mark), λ at cuts. refl)

  front_passes : Passes (front q c cs) c cs
  front_passes = front_by (is_white c) (begins_word c) (begins_number c) refl refl refl

-- ---- from a byte to the next

module _ (q : Bool) (e : ℕ) (ends : is_number e ≡ false) (no_comment : (c : ℕ) (cs : List ℕ) → not (nat_eq c e) ≡ true → begins_comment q c cs ≡ false) where
  -- the first byte that is not plain ends a word and a number
  stop_byte : (b c : ℕ) → is_plain_behind e b c ≡ false → nat_eq c 95 ≡ false → is_number c ≡ false
  stop_byte b c stops no_line =
      elim (and_cases (not (nat_eq c e)) (is_plain c || (nat_eq c 95 && is_word b)) stops) [
        | inl same ↦ subst (λ (d : ℕ). is_number d ≡ false) (sym (eqb-true c e (not-false (nat_eq c e) same))) ends
        | inr other ↦ not_plain c (or_parts (is_plain c) (nat_eq c 95 && is_word b) other).0 no_line
      ]

  stopped : (b c : ℕ) (cs : List ℕ) (k : ℕ) → is_number c ≡ false → Skips b (c ∷ cs) k → k ≡ 0
  stopped b c cs k no_number (word is) = let no_word : is_word c ≡ false = no_number_no_word c no_number in is ∙ rw no_word refl
  stopped b c cs k no_number (number is) = is ∙ rw no_number refl
  stopped b c cs k no_number (nothing is no_word) = is

  -- behind what was cut a plain byte is no `_`
  plain_by : (b c : ℕ) → is_plain_behind e b c ≡ true → (nat_eq c 95 && is_word b) ≡ false → (is_plain c ≡ true) × (not (nat_eq c e) ≡ true)
  plain_by b c is alone =
      let both = and_parts (not (nat_eq c e)) (is_plain c || (nat_eq c 95 && is_word b)) is in
      elim (or_cases (is_plain c) (nat_eq c 95 && is_word b) both.1) [ inl plain ↦ (plain, both.0) | inr lone ↦ absurd (both_ways (nat_eq c 95 && is_word b) alone lone) ]

  no_line_alone : (b c : ℕ) → nat_eq c 95 ≡ false → (nat_eq c 95 && is_word b) ≡ false
  no_line_alone b c no_line = rw no_line refl

  alone : (b c : ℕ) (cs : List ℕ) → Skips b (c ∷ cs) 0 → (nat_eq c 95 && is_word b) ≡ false
  alone b c cs (word is) = no_line_alone b c (no_word_no_line c (none_passes (is_word c) (prefix_len is_word cs) is))
  alone b c cs (number is) = no_line_alone b c (no_number_no_line c (none_passes (is_number c) (prefix_len is_number cs) is))
  alone b c cs (nothing is no_word) = ap (λ (w : Bool). nat_eq c 95 && w) no_word ∙ and_false (nat_eq c 95)
    where
      and_false : (x : Bool) → (x && false) ≡ false
      and_false true = refl
      and_false false = refl

  -- one byte on
  one_on : (b at c : ℕ) (cs : List ℕ) (k : ℕ) → is_plain_behind e b c ≡ true → Skips b (c ∷ cs) k
      → (n : ℕ) × Skips c cs n × (bad_place (cut q k at (c ∷ cs)) ≡ bad_place (cut q n (at + 1) cs))
  unfolding cut
  one_on b at c cs zero is skips =
      let plain = plain_by b c is (alone b c cs skips) in
      let passes = front_passes q c cs plain.0 (no_comment c cs plain.1) in
      let n = behind (front q c cs) in
      (n, passes.0, passes.1 at (cut q n (at + 1) cs))
  one_on b at c cs (suc k) is skips = (k, shorter b c cs k skips, refl)

  -- nothing bad stands in the first n bytes
  abbrev Same : (k at n : ℕ) → List ℕ → Type 0
  Same k at n text = bad_place (cut q k at text) ≡ bad_place (cut q 0 (at + n) (drop n text))

  module _ (b c : ℕ) (cs : List ℕ) (n : ℕ) (later : (k at : ℕ) → Skips c cs k → nat_eq (get_or cs n 0) 95 ≡ false → Same k at n cs) where
    same_by : (k at : ℕ) (plain : Bool) → is_plain_behind e b c ≡ plain → Skips b (c ∷ cs) k → nat_eq (get_or (c ∷ cs) (cond plain (1 + n) 0) 0) 95 ≡ false
        → Same k at (cond plain (1 + n) 0) (c ∷ cs)
    same_by k at true is skips stop =
        let one : 1 + n ≡ suc n = omega arith in
        let on = one_on b at c cs k is skips in
        let place : at + 1 + n ≡ at + suc n = omega arith in
        rw one (on.2 ∙ later on.0 (at + 1) on.1 (rw one at stop) ∙ ap (λ (p : ℕ). bad_place (cut q 0 p (drop n cs))) place)
    same_by k at false is skips stop =
        let none : k ≡ 0 = stopped b c cs k (stop_byte b c is stop) skips in
        let place : at ≡ at + 0 = omega arith in
        ap (λ (j : ℕ). bad_place (cut q j at (c ∷ cs))) none ∙ ap (λ (p : ℕ). bad_place (cut q 0 p (c ∷ cs))) place

  same : (b k at : ℕ) (cs : List ℕ) → Skips b cs k → nat_eq (get_or cs (plain_len e b cs) 0) 95 ≡ false → Same k at (plain_len e b cs) cs
  same b k at [] skips stop = ap bad_place (cut-nil q k at ∙ sym (cut-nil q 0 (at + 0)))
  same b k at (c ∷ cs) skips stop = same_by b c cs (plain_len e c cs) (λ k at. same c k at cs) k at (is_plain_behind e b c) refl skips stop

  -- the first bad byte stands behind the plain bytes at the front
  pub plain_front : (text : List ℕ) → nat_eq (get_or text (plain_len e 32 text) 0) 95 ≡ false → HasNoBad q text (plain_len e 32 text)
  plain_front text stop at = same 32 0 at text (nothing refl refl) stop

-- ---- in the words of the function

pub within_quotes : (q : Bool) (e n : ℕ) (text : List ℕ) → q ≡ true → e ≡ 34 → n ≡ plain_len e 32 text → nat_eq (get_or text n 0) 95 ≡ false → HasNoBad q text n
within_quotes q e n text quoted is len stop =
    subst (HasNoBad q text) (sym len) (plain_front q e (rw is refl) (λ c cs other. rw quoted refl) text (ap (λ (k : ℕ). nat_eq (get_or text k 0) 95) (sym len) ∙ stop))

no_minus_no_comment : (q : Bool) (c : ℕ) (cs : List ℕ) → nat_eq c 45 ≡ false → begins_comment q c cs ≡ false
no_minus_no_comment true c cs no_minus = refl
no_minus_no_comment false c cs no_minus = rw no_minus refl

pub outside_quotes : (q : Bool) (e n : ℕ) (text : List ℕ) → e ≡ 45 → n ≡ plain_len e 32 text → nat_eq (get_or text n 0) 95 ≡ false → HasNoBad q text n
outside_quotes q e n text is len stop =
    subst (HasNoBad q text) (sym len)
    (plain_front q e (rw is refl) (λ c cs other. no_minus_no_comment q c cs (ap (nat_eq c) (sym is) ∙ not-true (nat_eq c e) other)) text (ap (λ (k : ℕ). nat_eq (get_or text k 0) 95) (sym len) ∙ stop))

-- the byte at a place that is asked for, where it is found to be another or there is none
pub is_other : (found : Option (Bor ℕ)) (byte : Bor ℕ) (text : List ℕ) (n : ℕ) → option_eq (λ (x y : Bor ℕ). nat_eq x.now y.now) found (Some byte) ≡ false → byte.now ≡ 95
    → IfSome found (λ (x : Bor ℕ). x.now ≡ get_or text n x.now) → MatchOption found (length text ≤ n) (λ (x : Bor ℕ). (n < length text) × HoldsAt (λ y. x.now ≡ y) text n)
    → nat_eq (get_or text n 0) 95 ≡ false
is_other None byte text n differs line here past = rw (get_or_past text n 0 past) refl
is_other (Some x) byte text n differs line here there =
    let is : x.now ≡ get_or text n 0 = here ∙ get_or_default text n x.now 0 there.0 in
    ap (λ (d : ℕ). nat_eq d 95) (sym is) ∙ ap (nat_eq x.now) (sym line) ∙ differs
