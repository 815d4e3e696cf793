-- Each text is a row of parts up to its end or to a byte that begins nothing, and its cut is theirs.
use Rattle.std.proofs.Common.{◌≡◌, ℕ, zero, suc, ◌+◌, ◌<◌, Bool, true, false, nat_eq, List, [], ◌∷◌, ◌++◌, length, take, drop, get_or, map, refl, sym, ap, ◌∙◌, ◌⊎◌, inl, inr, arith}
use Rattle.std.proofs.lemmas.List.{take-append-drop, length-append, append_assoc, drop_more}
use Rattle.std.specs.List.{prefix_len, flat_map}
use Rattle.std.proofs.lemmas.Bool.Decides.{nat_tests}
use Rattle.bsdl_text.specs.declared.tokens.Kind.TheVariants as kind
use Rattle.token_runs.specs.Bytes.{is_white, is_line_end}
use Rattle.bsdl_text.specs.Bytes.{begins_word, is_word, begins_number, is_number, is_mark, begins_comment, begins_string, is_within}
use Rattle.bsdl_text.specs.Cutting.{Cut, piece, cut}
use Rattle.bsdl_text.specs.Gaps.{Part, white, comment, token, bytes_of, IsPart, Divides, tokens_at, BeginsNothing, unclosed, other}
use Rattle.token_runs.specs.Runs.{Ends, AllPass, EndsLine}
use Rattle.token_runs.proofs.RunFronts.{prefix_passes, prefix_ends, is_in_line, all_in_line, line_ends}
use Rattle.bsdl_text.proofs.Parts.{part_cut, quote_is}

tokens_more : (at : ℕ) (p : Part) (parts : List Part) (cuts : List Cut)
    → map piece (tokens_at at (p ∷ [])) ++ (map piece (tokens_at (at + length (bytes_of p)) parts) ++ cuts) ≡ map piece (tokens_at at (p ∷ parts)) ++ cuts
tokens_more at (white c) parts cuts = refl
tokens_more at (comment bytes) parts cuts = refl
tokens_more at (token k bytes) parts cuts = refl

pub divides_cut : (q : Bool) (at : ℕ) (parts : List Part) (text rest : List ℕ) → Divides q parts text rest
    → cut q 0 at text ≡ map piece (tokens_at at parts) ++ cut q 0 (at + length (flat_map bytes_of parts)) rest
divides_cut q at [] text rest is = let place : at ≡ at + 0 = omega arith in ap (cut q 0 at) is ∙ ap (λ (p : ℕ). cut q 0 p rest) place
divides_cut q at (p ∷ parts) text rest (after, is, fits, more) =
    let n = length (bytes_of p) in
    let place : at + n + length (flat_map bytes_of parts) ≡ at + length (flat_map bytes_of (p ∷ parts)) = omega (arith, length-append (bytes_of p) (flat_map bytes_of parts)) in
    ap (cut q 0 at) is ∙ part_cut q at p after fits
    ∙ ap (λ (cuts : List Cut). map piece (tokens_at at (p ∷ [])) ++ cuts) (divides_cut q (at + n) parts after rest more)
    ∙ tokens_more at p parts (cut q 0 (at + n + length (flat_map bytes_of parts)) rest)
    ∙ ap (λ (r : ℕ). map piece (tokens_at at (p ∷ parts)) ++ cut q 0 r rest) place

-- ---- the parts of any text

-- a string that is not closed ends at its line's end
open_ends : (c : ℕ) → is_within c ≡ false → nat_eq c 34 ≡ false → is_line_end c ≡ true
open_ends c h no_quote = grind (arith, nat_tests)

string_ends : (after : List ℕ) → Ends is_within after → nat_eq (get_or after 0 0) 34 ≡ false → EndsLine after
string_ends [] ends no_quote = tt
string_ends (c ∷ after) ends no_quote = open_ends c ends no_quote

equal_from_test : (c d : ℕ) → nat_eq c d ≡ true → c ≡ d
equal_from_test c d e = grind (arith, nat_tests)

minus_minus : (q : Bool) (c d : ℕ) (ds : List ℕ) → begins_comment q c (d ∷ ds) ≡ true → (q ≡ false) × (c ≡ 45) × (d ≡ 45)
minus_minus true c d ds begins = absurd cc
minus_minus false c d ds begins = (refl, grind (arith, nat_tests), grind (arith, nat_tests))

no_minus : (q : Bool) (c : ℕ) → begins_comment q c [] ≡ true → ⊥
no_minus true c begins = cc
no_minus false c begins = grind (arith, nat_tests)

-- the byte at a place, and the place of a byte that is not 0
head_at : (n : ℕ) (cs : List ℕ) → get_or (drop n cs) 0 0 ≡ get_or cs n 0
head_at zero cs = refl
head_at (suc n) [] = refl
head_at (suc n) (c ∷ cs) = head_at n cs

within_len : (n : ℕ) (cs : List ℕ) → get_or cs n 0 ≡ 34 → n < length cs
within_len zero [] e = absurd (omega (arith, e))
within_len (suc n) [] e = absurd (omega (arith, e))
within_len zero (c ∷ cs) e = omega arith
within_len (suc n) (c ∷ cs) e = let less : n < length cs = within_len n cs e in omega (arith, less)

-- parts up to the text's end or to a byte that begins nothing
pub record Found (q : Bool) (text : List ℕ) : Type 0 where
  pub parts : List Part
  pub rest : List ℕ
  pub divides : Divides q parts text rest
  pub ends : (rest ≡ []) ⊎ ((c : ℕ) × (more : List ℕ) × (rest ≡ c ∷ more) × BeginsNothing q c more)

module _ (q : Bool) where
  before : (p : Part) (text after : List ℕ) → text ≡ bytes_of p ++ after → IsPart q p after → Found q after → Found q text
  before p text after is fits f = record { parts = p ∷ f.parts; rest = f.rest; divides = (after, is, fits, f.divides); ends = f.ends }

  stands : (c : ℕ) (cs : List ℕ) → BeginsNothing q c cs → Found q (c ∷ cs)
  stands c cs nothing = record { parts = []; rest = c ∷ cs; divides = refl; ends = inr (c, cs, refl, nothing) }

  begun : (c : ℕ) (cs : List ℕ) → begins_comment q c cs ≡ true → IsPart q (comment (c ∷ take (prefix_len is_in_line cs) cs)) (drop (prefix_len is_in_line cs) cs)
  begun c [] begins = absurd (no_minus q c begins)
  begun c (d ∷ ds) begins =
      let facts = minus_minus q c d ds begins in
      let one : 1 + prefix_len is_in_line ds ≡ suc (prefix_len is_in_line ds) = omega arith in
      let second : d ≡ 45 = facts.2 in
      let first : c ≡ 45 = facts.1 in
      rw (first, second, one) (facts.0, take (prefix_len is_in_line ds) ds, refl, all_in_line _ (prefix_passes is_in_line ds), line_ends _ (prefix_ends is_in_line ds))

  module _ (c : ℕ) (cs : List ℕ) (later : (n : ℕ) → Found q (drop n cs)) where
    whole : (n : ℕ) → c ∷ cs ≡ (c ∷ take n cs) ++ drop n cs
    whole n = ap (λ (t : List ℕ). c ∷ t) (sym (take-append-drop n cs))

    found_comment : begins_comment q c cs ≡ true → Found q (c ∷ cs)
    found_comment begins = let n = prefix_len is_in_line cs in before (comment (c ∷ take n cs)) (c ∷ cs) (drop n cs) (whole n) (begun c cs begins) (later n)

    found_word : begins_word c ≡ true → Found q (c ∷ cs)
    found_word begins =
        let n = prefix_len is_word cs in
        before (token kind.Word (c ∷ take n cs)) (c ∷ cs) (drop n cs) (whole n) (c, take n cs, refl, begins, prefix_passes is_word cs, prefix_ends is_word cs) (later n)

    found_number : begins_number c ≡ true → Found q (c ∷ cs)
    found_number begins =
        let n = prefix_len is_number cs in
        before (token kind.Number (c ∷ take n cs)) (c ∷ cs) (drop n cs) (whole n) (c, take n cs, refl, begins, prefix_passes is_number cs, prefix_ends is_number cs) (later n)

    found_mark : is_mark c ≡ true → begins_comment q c cs ≡ false → Found q (c ∷ cs)
    found_mark mark no_gap = before (token kind.Mark (c ∷ [])) (c ∷ cs) cs refl (c, refl, mark, no_gap) (later 0)

    closed_whole : (n : ℕ) → n < length cs → c ≡ 34 → get_or cs n 0 ≡ 34 → c ∷ cs ≡ (34 ∷ (take n cs ++ 34 ∷ [])) ++ drop (n + 1) cs
    closed_whole n lt first last =
        ap (λ (d : ℕ). d ∷ cs) first
        ∙ ap (λ (t : List ℕ). 34 ∷ t) (sym (take-append-drop n cs) ∙ ap (λ (t : List ℕ). take n cs ++ t) (drop_more cs n 0 lt ∙ ap (λ (d : ℕ). d ∷ drop (n + 1) cs) last)
        ∙ sym (append_assoc (take n cs) (34 ∷ []) (drop (n + 1) cs)))

    found_closed : (n : ℕ) → n < length cs → AllPass is_within (take n cs) → q ≡ false → c ≡ 34 → get_or cs n 0 ≡ 34 → Found q (c ∷ cs)
    found_closed n lt all outside first last =
        before (token kind.Text (34 ∷ (take n cs ++ 34 ∷ []))) (c ∷ cs) (drop (n + 1) cs) (closed_whole n lt first last) (outside, take n cs, refl, all) (later (n + 1))

    found_open : (n : ℕ) → begins_string q c ≡ true → AllPass is_within (take n cs) → EndsLine (drop n cs) → Found q (c ∷ cs)
    found_open n begins all ends = stands c cs (unclosed begins (record { body = take n cs; after = drop n cs; whole = sym (take-append-drop n cs); within = all; ends = ends }))

    found_string : begins_string q c ≡ true → (b : Bool) → nat_eq (get_or cs (prefix_len is_within cs) 0) 34 ≡ b → Found q (c ∷ cs)
    found_string begins true closed =
        let n = prefix_len is_within cs in
        let facts = quote_is q c begins in
        let last : get_or cs n 0 ≡ 34 = equal_from_test (get_or cs n 0) 34 closed in
        found_closed n (within_len n cs last) (prefix_passes is_within cs) facts.0 facts.1 last
    found_string begins false closed =
        let n = prefix_len is_within cs in
        let front : nat_eq (get_or (drop n cs) 0 0) 34 ≡ false = ap (λ (d : ℕ). nat_eq d 34) (head_at n cs) ∙ closed in
        found_open n begins (prefix_passes is_within cs) (string_ends (drop n cs) (prefix_ends is_within cs) front)

    found_plain : is_white c ≡ false → begins_comment q c cs ≡ false → begins_string q c ≡ false → (a b d : Bool) → begins_word c ≡ a → begins_number c ≡ b → is_mark c ≡ d → Found q (c ∷ cs)
    found_plain no_white no_gap no_text true b d word_is number_is mark_is = found_word word_is
    found_plain no_white no_gap no_text false true d word_is number_is mark_is = found_number number_is
    found_plain no_white no_gap no_text false false true word_is number_is mark_is = found_mark mark_is no_gap
    found_plain no_white no_gap no_text false false false word_is number_is mark_is = stands c cs (other no_white no_text word_is number_is mark_is)

    found_here : (a b d : Bool) → is_white c ≡ a → begins_comment q c cs ≡ b → begins_string q c ≡ d → Found q (c ∷ cs)
    found_here true b d white_is comment_is text_is = before (white c) (c ∷ cs) cs refl white_is (later 0)
    found_here false true d white_is comment_is text_is = found_comment comment_is
    found_here false false true white_is comment_is text_is = found_string text_is (nat_eq (get_or cs (prefix_len is_within cs) 0) 34) refl
    found_here false false false white_is comment_is text_is = found_plain white_is comment_is text_is (begins_word c) (begins_number c) (is_mark c) refl refl refl

  found_behind : (text : List ℕ) (n : ℕ) → Found q (drop n text)
  found_behind [] zero = record { parts = []; rest = []; divides = refl; ends = inl refl }
  found_behind [] (suc n) = record { parts = []; rest = []; divides = refl; ends = inl refl }
  found_behind (c ∷ cs) zero = found_here c cs (λ n. found_behind cs n) (is_white c) (begins_comment q c cs) (begins_string q c) refl refl refl
  found_behind (c ∷ cs) (suc n) = found_behind cs n

  pub found : (text : List ℕ) → Found q text
  found text = found_behind text 0
