-- Tokens behind gaps, and tokens of one byte.
use Rattle.std.proofs.Common.{◌≡◌, ℕ, suc, ◌+◌, ◌<◌, ◌≤◌, ◌||◌, nat_eq, Bool, true, false, List, length, drop, get_or, refl, sym, ap, ◌∙◌, Option, Some, None, arith}
use Rattle.std.specs.Prelude.{◌==◌, slice_index, if◌then◌else◌}
use Rattle.std.specs.List.{prefix_len, position_or_len}
use Rattle.std.proofs.lemmas.Bool.{and_left, ne_eqb, eq-eqb}
use Rattle.std.proofs.lemmas.Bool.Decides.{nat_tests}
use Rattle.std.proofs.lemmas.List.{take_rest}
use Rattle.bsdl_text.specs.declared.tokens.Kind.{Kind}
use Rattle.bsdl_text.specs.declared.tokens.Kind.TheVariants as kind
use Rattle.bsdl_text.specs.declared.tokens.scan.Front.{Front}
use Rattle.bsdl_text.specs.declared.tokens.scan.Front.TheVariants.{Gap, Token, Bad}
use Rattle.bsdl_text.specs.Alone.{stands_alone}
use Rattle.token_runs.specs.Bytes.{is_white, is_line_end}
use Rattle.bsdl_text.specs.Bytes.{is_within, begins_word, is_word, begins_number, is_number, begins_comment, begins_string, is_mark}
use Rattle.bsdl_text.specs.Cutting.{Cut, cut, front, with_front, tokens}
use Rattle.bsdl_text.specs.Scanning.{gap}
use Rattle.bsdl_text.proofs.AsciiLaws.{choice}
use Rattle.bsdl_text.proofs.Parts.{mark_front}
use Rattle.bsdl_text.proofs.Steps.{cut_at, at_end}
use Rattle.token_runs.proofs.CutSteps.{rest_of}

-- a byte that begins a token, whatever stands behind it
abbrev pub begins_any : ℕ → Bool
begins_any c = begins_word c || (begins_number c || is_mark c)

abbrev gap_choice : Bool → Bool → ℕ → Option ℕ
gap_choice w cm a = if w then Some 0 else if cm then Some a else None

some_choice : (w cm : Bool) (a n : ℕ) (f : Front) → Some n ≡ gap_choice w cm a → Gap n ≡ (if w then Gap 0 else if cm then Gap a else f)
some_choice true cm a n f is = cc
some_choice false true a n f is = cc
some_choice false false a n f is = absurd (cc)

-- a gap is the front
pub gap_front : (q : Bool) (c : ℕ) (cs : List ℕ) (n : ℕ) → Some n ≡ gap q c cs → Gap n ≡ front q c cs
gap_front q c cs n is = some_choice (is_white c) (begins_comment q c cs) (position_or_len is_line_end cs) n _ is

abbrev pub is_gap : Front → Bool
is_gap (Gap n) = true
is_gap (Token k n) = false
is_gap Bad = false

none_choice : (w cm str closed beg num mk : Bool) (a k p r : ℕ) → gap_choice w cm a ≡ None → is_gap (choice w cm str closed beg num mk a k p r) ≡ false
none_choice true cm str closed beg num mk a k p r none = absurd (cc)
none_choice false true str closed beg num mk a k p r none = absurd (cc)
none_choice false false true true beg num mk a k p r none = refl
none_choice false false true false beg num mk a k p r none = refl
none_choice false false false closed true num mk a k p r none = refl
none_choice false false false closed false true mk a k p r none = refl
none_choice false false false closed false false true a k p r none = refl
none_choice false false false closed false false false a k p r none = refl

-- where there is none, the front is a token or bad
pub no_gap_front : (q : Bool) (c : ℕ) (cs : List ℕ) → gap q c cs ≡ None → is_gap (front q c cs) ≡ false
no_gap_front q c cs none =
    none_choice (is_white c) (begins_comment q c cs) (begins_string q c) (slice_index cs (prefix_len is_within cs) == 34) (begins_word c) (begins_number c) (is_mark c)
    (position_or_len is_line_end cs) (prefix_len is_within cs) (prefix_len is_word cs) (prefix_len is_number cs) none

neither : (f : Front) → is_gap f ≡ false → ((k : Kind) (n : ℕ) → f ≡ Token k n → ⊥) → Bad ≡ f
neither (Gap n) none no_token = absurd (cc)
neither (Token k n) none no_token = absurd (no_token k n refl)
neither Bad none no_token = refl

-- and bad where it is no token
pub bad_front : (q : Bool) (c : ℕ) (cs : List ℕ) → gap q c cs ≡ None → ((k : Kind) (n : ℕ) → front q c cs ≡ Token k n → ⊥) → Bad ≡ front q c cs
bad_front q c cs none no_token = neither (front q c cs) (no_gap_front q c cs none) no_token

no_comment : (w cm : Bool) (a : ℕ) → gap_choice w cm a ≡ None → cm ≡ false
no_comment true cm a none = absurd (cc)
no_comment false true a none = absurd (cc)
no_comment false false a none = refl

pub lone_mark : (q : Bool) (c : ℕ) (cs : List ℕ) → is_mark c ≡ true → gap q c cs ≡ None → front q c cs ≡ Token kind.Mark 0
lone_mark q c cs mark none = mark_front q c cs mark (no_comment (is_white c) (begins_comment q c cs) (position_or_len is_line_end cs) none)

-- ---- whether a token is left

abbrev is_token : Front → Bool
is_token (Gap n) = false
is_token (Token k n) = true
is_token Bad = false

begins_choice : (w cm str closed beg num mk : Bool) (a k p r : ℕ) → gap_choice w cm a ≡ None → str ≡ false → (beg || (num || mk)) ≡ true → is_token (choice w cm str closed beg num mk a k p r) ≡ true
begins_choice true cm str closed beg num mk a k p r none no_string begins = absurd (cc)
begins_choice false true str closed beg num mk a k p r none no_string begins = absurd (cc)
begins_choice false false true closed beg num mk a k p r none no_string begins = absurd (cc)
begins_choice false false false closed true num mk a k p r none no_string begins = refl
begins_choice false false false closed false true mk a k p r none no_string begins = refl
begins_choice false false false closed false false true a k p r none no_string begins = refl
begins_choice false false false closed false false false a k p r none no_string begins = absurd (cc)

no_quote : (q : Bool) (c : ℕ) → begins_any c ≡ true → begins_string q c ≡ false
no_quote true c begins = refl
no_quote false c begins = grind (arith, nat_tests)

begun : (q : Bool) (c : ℕ) (cs : List ℕ) → begins_any c ≡ true → gap q c cs ≡ None → is_token (front q c cs) ≡ true
begun q c cs begins none =
    begins_choice (is_white c) (begins_comment q c cs) (begins_string q c) (slice_index cs (prefix_len is_within cs) == 34) (begins_word c) (begins_number c) (is_mark c)
    (position_or_len is_line_end cs) (prefix_len is_within cs) (prefix_len is_word cs) (prefix_len is_number cs) none (no_quote q c begins) begins

with_token : (f : Front) (at c : ℕ) (cs : List ℕ) (cuts : List Cut) → is_token f ≡ true → (length (tokens (with_front f at c cs cuts)) == 0) ≡ false
with_token (Gap n) at c cs cuts token = absurd (cc)
with_token (Token k n) at c cs cuts token = ne_eqb (suc (length (tokens cuts))) 0 (λ e. absurd (omega arith))
with_token Bad at c cs cuts token = absurd (cc)

pub over_at_end : (q : Bool) (source : List ℕ) (at : ℕ) → length source ≤ at → true ≡ (length (tokens (cut q 0 at (drop at source))) == 0)
over_at_end q source at past = sym (ap (λ (cuts : List Cut). length (tokens cuts) == 0) (at_end q source at past))

pub token_stands : (q : Bool) (source : List ℕ) (at : ℕ) → at < length source → begins_any (get_or source at 0) ≡ true → gap q (get_or source at 0) (drop (at + 1) source) ≡ None
    → false ≡ (length (tokens (cut q 0 at (drop at source))) == 0)
token_stands q source at lt begins none =
    let c = get_or source at 0 in
    let cs = rest_of source at in
    let f = front q c cs in
    sym (ap (λ (cuts : List Cut). length (tokens cuts) == 0) (cut_at q source at f lt refl)
    ∙ with_token f at c (drop (at + 1) source) _ (begun q c cs begins (ap (gap q c) (take_rest source (at + 1)) ∙ none)))

-- ---- whether the first token is one byte

with_other : (f : Front) (at c byte : ℕ) (cs : List ℕ) (cuts : List Cut) → is_gap f ≡ false → nat_eq c byte ≡ false → stands_alone byte (tokens (with_front f at c cs cuts)) ≡ false
with_other (Gap n) at c byte cs cuts none differ = absurd (cc)
with_other (Token k n) at c byte cs cuts none differ = and_left (nat_eq c byte) _ differ
with_other Bad at c byte cs cuts none differ = refl

-- no token at the end
pub at_end_alone : (q : Bool) (source : List ℕ) (at byte : ℕ) → length source ≤ at → false ≡ stands_alone byte (tokens (cut q 0 at (drop at source)))
at_end_alone q source at byte past = sym (ap (λ (cuts : List Cut). stands_alone byte (tokens cuts)) (at_end q source at past))

module _ (q : Bool) (source : List ℕ) (at byte : ℕ) (lt : at < length source) where
  abbrev here : ℕ
  here = get_or source at 0

  -- a mark by itself
  pub byte_alone : here ≡ byte → is_mark byte ≡ true → gap q here (drop (at + 1) source) ≡ None
      → (true ≡ stands_alone byte (tokens (cut q 0 at (drop at source)))) × (tokens (cut q 0 (at + 1) (drop (at + 1) source)) ≡ drop 1 (tokens (cut q 0 at (drop at source))))
  byte_alone same mark none =
      let f : Front = Token kind.Mark 0 in
      let is : f ≡ front q here (rest_of source at) =
      sym (lone_mark q here (rest_of source at) (ap is_mark same ∙ mark) (ap (gap q here) (take_rest source (at + 1)) ∙ none)) in
      let step = cut_at q source at f lt is in
      let equal : nat_eq here byte ≡ true = eq-eqb here byte same in
      let place : at + 1 + 0 ≡ at + 1 = omega arith in (
        sym (ap (λ (cuts : List Cut). stands_alone byte (tokens cuts)) step ∙ rw equal refl),
        ap (λ (p : ℕ). tokens (cut q 0 p (drop p source))) (sym place) ∙ sym (ap (λ (cuts : List Cut). drop 1 (tokens cuts)) step),
      )

  -- another byte
  pub other_byte : (here ≡ byte → ⊥) → gap q here (drop (at + 1) source) ≡ None → false ≡ stands_alone byte (tokens (cut q 0 at (drop at source)))
  other_byte differ none =
      let cs = rest_of source at in
      let no_gap : is_gap (front q here cs) ≡ false = no_gap_front q here cs (ap (gap q here) (take_rest source (at + 1)) ∙ none) in
      sym (ap (λ (cuts : List Cut). stands_alone byte (tokens cuts)) (cut_at q source at (front q here cs) lt refl)
      ∙ with_other (front q here cs) at here byte (drop (at + 1) source) _ no_gap (ne_eqb here byte differ))
