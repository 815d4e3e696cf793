-- Words are ASCII: they are letters, digits and `_`.
use Rattle.std.proofs.Common.{◌≡◌, ℕ, Bool, true, false, zero, suc, ◌+◌, ◌<◌, ◌≤◌, List, ◌∷◌, length, take, drop, get_or, refl, sym, ap, ◌∙◌, subst, inl, inr, arith}
use Rattle.std.specs.Prelude.{◌==◌, slice_index, if◌then◌else◌}
use Rattle.std.specs.List.{prefix_len, position_or_len}
use Rattle.std.proofs.lemmas.Bool.Decides.{nat_tests}
use Rattle.std.proofs.lemmas.List.{take_rest, get_or-take, get_or_past, length-take-le}
use Rattle.std.proofs.lemmas.Bool.{cases_lt}
use Rattle.std.proofs.lemmas.List.Sums.{prefix_len_passes, prefix_len-le-length}
use Rattle.bsdl_text.specs.declared.tokens.Kind.{Kind}
use Rattle.bsdl_text.specs.declared.tokens.Kind.TheVariants as kind
use Rattle.bsdl_text.specs.declared.tokens.scan.Front.{Front}
use Rattle.bsdl_text.specs.declared.tokens.scan.Front.TheVariants.{Gap, Token, Bad}
use Rattle.bsdl_text.specs.Ascii.{IsAscii, IsAsciiWord}
use Rattle.token_runs.specs.Bytes.{is_white, is_line_end}
use Rattle.bsdl_text.specs.Bytes.{is_within, begins_word, is_word, begins_number, is_number, begins_comment, begins_string, is_mark}
use Rattle.bsdl_text.specs.Cutting.{front}
use Rattle.token_runs.proofs.CutSteps.{rest_of, part_of, part-cons}

-- a front by what its first byte is
abbrev pub choice : (w cm str closed beg num mk : Bool) → (a k p r : ℕ) → Front
choice w cm str closed beg num mk a k p r =
    if w then Gap 0
    else if cm then Gap a
    else if str then (if closed then Token kind.Text (k + 1) else Bad)
    else if beg then Token kind.Word p
    else if num then Token kind.Number r
    else if mk then Token kind.Mark 0
    else Bad

word_choice : (w cm str closed beg num mk : Bool) (a k p r n : ℕ) → Token kind.Word n ≡ choice w cm str closed beg num mk a k p r → (beg ≡ true) × (n ≡ p)
word_choice true cm str closed beg num mk a k p r n is = absurd (cc)
word_choice false true str closed beg num mk a k p r n is = absurd (cc)
word_choice false false true true beg num mk a k p r n is = absurd (cc)
word_choice false false true false beg num mk a k p r n is = absurd (cc)
word_choice false false false closed true num mk a k p r n is = (refl, cc)
word_choice false false false closed false true mk a k p r n is = absurd (cc)
word_choice false false false closed false false true a k p r n is = absurd (cc)
word_choice false false false closed false false false a k p r n is = absurd (cc)

-- what begins a word, and how far it goes
word_front : (q : Bool) (c : ℕ) (cs : List ℕ) (n : ℕ) → Token kind.Word n ≡ front q c cs → (begins_word c ≡ true) × (n ≡ prefix_len is_word cs)
word_front q c cs n is =
    word_choice (is_white c) (begins_comment q c cs) (begins_string q c) (slice_index cs (prefix_len is_within cs) == 34) (begins_word c) (begins_number c) (is_mark c)
    (position_or_len is_line_end cs) (prefix_len is_within cs) (prefix_len is_word cs) (prefix_len is_number cs) n is

letter_small : (c : ℕ) → begins_word c ≡ true → c < 128
letter_small c is = grind (arith, nat_tests)

word_small : (c : ℕ) → is_word c ≡ true → c < 128
word_small c is = grind (arith, nat_tests)

-- the bytes that go on with a word
behind_small : (cs : List ℕ) (k : ℕ) → get_or (take (prefix_len is_word cs) cs) k 0 < 128
behind_small cs k =
    elim (cases_lt k (prefix_len is_word cs)) [
      | inl within ↦ rw (get_or-take (prefix_len is_word cs) cs k 0 within) (word_small (get_or cs k 0) (prefix_len_passes is_word cs k 0 within))
      | inr past ↦
          let size : length (take (prefix_len is_word cs) cs) ≡ prefix_len is_word cs = length-take-le (prefix_len is_word cs) cs (prefix_len-le-length is_word cs) in
          let end : length (take (prefix_len is_word cs) cs) ≤ k = omega arith in
          rw (get_or_past (take (prefix_len is_word cs) cs) k 0 end) (omega arith)
    ]

small_word : (c : ℕ) (cs : List ℕ) (n : ℕ) → begins_word c ≡ true → n ≡ prefix_len is_word cs → IsAscii (c ∷ take n cs)
small_word c cs n begins len zero = letter_small c begins
small_word c cs n begins len (suc k) = rw len (behind_small cs k)

-- the bytes of a token, as a slice
pub ascii_token : (q : Bool) (source : List ℕ) (at : ℕ) (k : Kind) (n : ℕ) → at < length source → Token k n ≡ front q (get_or source at 0) (rest_of source at)
    → IsAsciiWord k (part_of source at n)
ascii_token q source at k n lt is word =
    let P : List ℕ → Type 0 = λ bytes. IsAscii bytes in
    let w = word_front q (get_or source at 0) (rest_of source at) n (ap (λ (x : Kind). Token x n) (sym word) ∙ is) in
    subst P (sym (part-cons source at n lt))
    (small_word (get_or source at 0) (drop (at + 1) source) n w.0 (w.1 ∙ ap (prefix_len is_word) (take_rest source (at + 1))))
