-- The cut of a text that is a row of parts.
use Rattle.std.proofs.Common.{◌≡◌, ℕ, ◌+◌, Bool, true, false, nat_eq, cond, List, [], ◌∷◌, ◌++◌, length, get_or, map, refl, sym, ap, ◌∙◌, subst, arith}
use Rattle.std.proofs.lemmas.List.{append_assoc}
use Rattle.std.specs.List.{prefix_len, AllByRecursion}
use Rattle.std.proofs.lemmas.Bool.Decides.{nat_tests}
use Rattle.bsdl_text.specs.declared.tokens.Kind.{Kind}
use Rattle.bsdl_text.specs.declared.tokens.Kind.TheVariants as kind
use Rattle.bsdl_text.specs.declared.tokens.scan.Front.TheVariants.{Gap, Token, Bad}
use Rattle.token_runs.specs.Bytes.{is_white, is_line_end}
use Rattle.bsdl_text.specs.Bytes.{begins_word, is_word, begins_number, is_number, is_mark, begins_comment, begins_string, is_within}
use Rattle.bsdl_text.specs.Cutting.{piece, cut, front, string_front}
use Rattle.bsdl_text.specs.Gaps.{Part, white, comment, token, bytes_of, IsPart, BeginsNothing, unclosed, other, tokens_at}
use Rattle.token_runs.specs.Runs.{Ends, AllPass, EndsLine, IsInLine}
use Rattle.token_runs.proofs.RunFronts.{prefix_len-append, is_in_line, pass_in_line, ends_in_line}
use Rattle.bsdl_text.proofs.Steps.{gap_cut, token_cut}

-- ---- what begins one kind begins no other

no_comment : (q : Bool) (c : ℕ) (cs : List ℕ) → nat_eq c 45 ≡ false → begins_comment q c cs ≡ false
no_comment true c cs not_minus = refl
no_comment false c cs not_minus = rw not_minus refl

no_string : (q : Bool) (c : ℕ) → nat_eq c 34 ≡ false → begins_string q c ≡ false
no_string true c not_quote = refl
no_string false c not_quote = rw not_quote refl

-- a byte that begins no gap and no string
abbrev IsPlain : Bool → ℕ → List ℕ → Type 0
IsPlain q c cs = (is_white c ≡ false) × (begins_comment q c cs ≡ false) × (begins_string q c ≡ false)

letter_is_plain : (q : Bool) (c : ℕ) (cs : List ℕ) → begins_word c ≡ true → IsPlain q c cs
letter_is_plain q c cs h = (grind (arith, nat_tests), no_comment q c cs (grind (arith, nat_tests)), no_string q c (grind (arith, nat_tests)))

digit_is_plain : (q : Bool) (c : ℕ) (cs : List ℕ) → begins_number c ≡ true → IsPlain q c cs × (begins_word c ≡ false)
digit_is_plain q c cs h = ((grind (arith, nat_tests), no_comment q c cs (grind (arith, nat_tests)), no_string q c (grind (arith, nat_tests))), grind (arith, nat_tests))

mark_is_plain : (q : Bool) (c : ℕ) (cs : List ℕ) → is_mark c ≡ true → (is_white c ≡ false) × (begins_string q c ≡ false) × (begins_word c ≡ false) × (begins_number c ≡ false)
mark_is_plain q c cs h = (grind (arith, nat_tests), no_string q c (grind (arith, nat_tests)), grind (arith, nat_tests), grind (arith, nat_tests))

-- ---- what stands at the front

pub comment_front : (c : ℕ) (body after : List ℕ) → is_white c ≡ false → begins_comment false c (body ++ after) ≡ true → AllByRecursion IsInLine body → EndsLine after
    → front false c (body ++ after) ≡ Gap (length body)
comment_front c body after no_white begins all ends =
    rw (no_white, begins) (ap Gap (prefix_len-append is_in_line body after (pass_in_line body all) (ends_in_line after ends)))

pub word_front : (q : Bool) (c : ℕ) (body after : List ℕ) → begins_word c ≡ true → AllPass is_word body → Ends is_word after → front q c (body ++ after) ≡ Token kind.Word (length body)
word_front q c body after word all ends =
    let plain = letter_is_plain q c (body ++ after) word in
    let no_white : is_white c ≡ false = plain.0 in
    let no_gap : begins_comment q c (body ++ after) ≡ false = plain.1 in
    let no_text : begins_string q c ≡ false = plain.2 in
    rw (no_white, no_gap, no_text, word) (ap (Token kind.Word) (prefix_len-append is_word body after all ends))

pub number_front : (q : Bool) (c : ℕ) (body after : List ℕ) → begins_number c ≡ true → AllPass is_number body → Ends is_number after → front q c (body ++ after) ≡ Token kind.Number (length body)
number_front q c body after number all ends =
    let plain = digit_is_plain q c (body ++ after) number in
    let no_white : is_white c ≡ false = plain.0.0 in
    let no_gap : begins_comment q c (body ++ after) ≡ false = plain.0.1 in
    let no_text : begins_string q c ≡ false = plain.0.2 in
    let no_word : begins_word c ≡ false = plain.1 in
    rw (no_white, no_gap, no_text, no_word, number) (ap (Token kind.Number) (prefix_len-append is_number body after all ends))

pub mark_front : (q : Bool) (c : ℕ) (after : List ℕ) → is_mark c ≡ true → begins_comment q c after ≡ false → front q c after ≡ Token kind.Mark 0
mark_front q c after mark no_gap =
    let plain = mark_is_plain q c after mark in
    let no_white : is_white c ≡ false = plain.0 in
    let no_text : begins_string q c ≡ false = plain.1 in
    let no_word : begins_word c ≡ false = plain.2 in
    let no_number : begins_number c ≡ false = plain.3 in
    rw (no_white, no_gap, no_text, no_word, no_number, mark) refl

-- the byte behind a list
pub byte_behind : (body : List ℕ) (c : ℕ) (after : List ℕ) → get_or (body ++ c ∷ after) (length body) 0 ≡ c
byte_behind [] c after = refl
byte_behind (b ∷ body) c after = byte_behind body c after

pub none_behind : (body : List ℕ) → get_or (body ++ []) (length body) 0 ≡ 0
none_behind [] = refl
none_behind (b ∷ body) = none_behind body

pub text_front : (body after : List ℕ) → AllPass is_within body → front false 34 (body ++ 34 ∷ after) ≡ Token kind.Text (length body + 1)
text_front body after all =
    let len : prefix_len is_within (body ++ 34 ∷ after) ≡ length body = prefix_len-append is_within body (34 ∷ after) all refl in
    ap (λ (n : ℕ). string_front n (body ++ 34 ∷ after)) len
    ∙ ap (λ (d : ℕ). cond (nat_eq d 34) (Token kind.Text (length body + 1)) Bad) (byte_behind body 34 after)

line_end_is_no_quote : (c : ℕ) → is_line_end c ≡ true → (is_within c ≡ false) × (nat_eq c 34 ≡ false)
line_end_is_no_quote c h = (grind (arith, nat_tests), grind (arith, nat_tests))

open_front : (body after : List ℕ) → AllPass is_within body → EndsLine after → front false 34 (body ++ after) ≡ Bad
open_front body [] all ends =
    let len : prefix_len is_within (body ++ []) ≡ length body = prefix_len-append is_within body [] all tt in
    ap (λ (n : ℕ). string_front n (body ++ [])) len
    ∙ ap (λ (d : ℕ). cond (nat_eq d 34) (Token kind.Text (length body + 1)) Bad) (none_behind body)
open_front body (c ∷ after) all ends =
    let facts = line_end_is_no_quote c ends in
    let len : prefix_len is_within (body ++ c ∷ after) ≡ length body = prefix_len-append is_within body (c ∷ after) all facts.0 in
    ap (λ (n : ℕ). string_front n (body ++ c ∷ after)) len
    ∙ ap (λ (d : ℕ). cond (nat_eq d 34) (Token kind.Text (length body + 1)) Bad) (byte_behind body c after)
    ∙ ap (λ (b : Bool). cond b (Token kind.Text (length body + 1)) Bad) facts.1

pub quote_is : (q : Bool) (c : ℕ) → begins_string q c ≡ true → (q ≡ false) × (c ≡ 34)
quote_is true c h = absurd cc
quote_is false c h = (refl, grind (arith, nat_tests))

none_is_no_minus : (c : ℕ) → is_mark c ≡ false → nat_eq c 45 ≡ false
none_is_no_minus c h = grind (arith, nat_tests)

pub nothing_stands : (q : Bool) (c : ℕ) (rest : List ℕ) → BeginsNothing q c rest → front q c rest ≡ Bad
nothing_stands q c rest (unclosed is open_is) =
    let facts = quote_is q c is in
    subst (λ (b : Bool). front b c rest ≡ Bad) (sym facts.0) (subst (λ (d : ℕ). front false d rest ≡ Bad) (sym facts.1)
    (ap (front false 34) open_is.whole ∙ open_front open_is.body open_is.after open_is.within open_is.ends))
nothing_stands q c rest (other no_white no_text no_word no_number no_mark) =
    let no_gap : begins_comment q c rest ≡ false = no_comment q c rest (none_is_no_minus c no_mark) in
    rw (no_white, no_gap, no_text, no_word, no_number, no_mark) refl

-- ---- the cut of one part

-- the cuts of a text that begins with a part
abbrev pub PartCut : Bool → ℕ → Part → List ℕ → Type 0
PartCut q at p after = cut q 0 at (bytes_of p ++ after) ≡ map piece (tokens_at at (p ∷ [])) ++ cut q 0 (at + length (bytes_of p)) after

comment_part : (q : Bool) (at : ℕ) (bytes body after : List ℕ) → q ≡ false → bytes ≡ 45 ∷ 45 ∷ body → AllByRecursion IsInLine body → EndsLine after → PartCut q at (comment bytes) after
comment_part q at bytes body after outside is all ends =
    subst (λ (b : Bool). PartCut b at (comment bytes) after) (sym outside) (subst (λ (b : List ℕ). PartCut false at (comment b) after) (sym is)
    (gap_cut false at 45 (45 ∷ body) after (comment_front 45 (45 ∷ body) after refl refl (refl, all) ends)))

word_part : (q : Bool) (at : ℕ) (bytes : List ℕ) (c : ℕ) (more after : List ℕ) (k : Kind) → bytes ≡ c ∷ more → front q c (more ++ after) ≡ Token k (length more) → PartCut q at (token k bytes) after
word_part q at bytes c more after k is stands = subst (λ (b : List ℕ). PartCut q at (token k b) after) (sym is) (token_cut q k at c more after stands)

length-quoted : (body : List ℕ) → length (body ++ 34 ∷ []) ≡ length body + 1
length-quoted [] = refl
length-quoted (b ∷ body) = let one : length (body ++ 34 ∷ []) ≡ length body + 1 = length-quoted body in omega (arith, one)

text_part : (q : Bool) (at : ℕ) (bytes body after : List ℕ) → q ≡ false → bytes ≡ 34 ∷ (body ++ 34 ∷ []) → AllPass is_within body → PartCut q at (token kind.Text bytes) after
text_part q at bytes body after outside is all =
    let stands : front false 34 ((body ++ 34 ∷ []) ++ after) ≡ Token kind.Text (length (body ++ 34 ∷ [])) =
    ap (front false 34) (append_assoc body (34 ∷ []) after) ∙ text_front body after all ∙ ap (Token kind.Text) (sym (length-quoted body)) in
    subst (λ (b : Bool). PartCut b at (token kind.Text bytes) after) (sym outside) (word_part false at bytes 34 (body ++ 34 ∷ []) after kind.Text is stands)

pub part_cut : (q : Bool) (at : ℕ) (p : Part) (after : List ℕ) → IsPart q p after → PartCut q at p after
part_cut q at (white c) after is =
    let stands : front q c after ≡ Gap 0 = let here : is_white c ≡ true = is in rw here refl in
    gap_cut q at c [] after stands
part_cut q at (comment bytes) after (outside, body, is, all, ends) = comment_part q at bytes body after outside is all ends
part_cut q at (token kind.Word bytes) after (c, more, is, begins, all, ends) = word_part q at bytes c more after kind.Word is (word_front q c more after begins all ends)
part_cut q at (token kind.Number bytes) after (c, more, is, begins, all, ends) = word_part q at bytes c more after kind.Number is (number_front q c more after begins all ends)
part_cut q at (token kind.Text bytes) after (outside, body, is, all) = text_part q at bytes body after outside is all
part_cut q at (token kind.Mark bytes) after (c, is, mark, no_gap) = word_part q at bytes c [] after kind.Mark is (mark_front q c after mark no_gap)
