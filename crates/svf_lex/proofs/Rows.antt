-- A text has one row of parts.
use Rattle.std.proofs.Common.{◌≡◌, ℕ, ◌<◌, Bool, true, false, List, [], ◌∷◌, ◌++◌, length, take, refl, sym, ap, ◌∙◌, subst, inl, inr, arith}
use Rattle.std.proofs.lemmas.List.{append_cancel_left, append_assoc, append-nil, length-append, take_at}
use Rattle.std.specs.List.{flat_map, AllByRecursion}
use Rattle.svf_lex.specs.declared.Kind.TheVariants as kind
use Rattle.svf_lex.specs.declared.scan.Front.{Front}
use Rattle.svf_lex.specs.declared.scan.Front.TheVariants.{Gap, Token, Bad}
use Rattle.token_runs.specs.Bytes.{is_white}
use Rattle.svf_lex.specs.Bytes.{is_run, begins_comment}
use Rattle.svf_lex.specs.Cutting.{front}
use Rattle.svf_lex.specs.Gaps.{Part, white, comment, token, bytes_of, IsComment, IsPart, Divides}
use Rattle.token_runs.specs.Runs.{Ends, AllPass, EndsLine, IsInLine}
use Rattle.svf_lex.specs.Laws.{PartsAreOne, PartsJoin, RunsStandApart}
use Rattle.svf_lex.proofs.Parts.{comment_front, run_front, part_holds}

-- the part that stands at the front of a text, where one does
abbrev part_by : Front → Bool → ℕ → List ℕ → Part
part_by (Gap n) true c cs = white c
part_by (Gap n) false c cs = comment (c ∷ take n cs)
part_by (Token k n) is c cs = token k (c ∷ take n cs)
part_by Bad is c cs = white c

abbrev first_part : List ℕ → Part
first_part [] = white 0
first_part (c ∷ cs) = part_by (front c cs) (is_white c) c cs

abbrev IsFirst : Part → List ℕ → Type 0
IsFirst p after = first_part (bytes_of p ++ after) ≡ p

white_first : (c : ℕ) (after : List ℕ) → is_white c ≡ true → IsFirst (white c) after
white_first c after is = rw is refl

comment_first : (c : ℕ) (body after : List ℕ) → is_white c ≡ false → begins_comment c (body ++ after) ≡ true → AllByRecursion IsInLine body → EndsLine after → IsFirst (comment (c ∷ body)) after
comment_first c body after no_white begins all ends =
    ap (λ (f : Front). part_by f (is_white c) c (body ++ after)) (comment_front c body after no_white begins all ends)
    ∙ ap (λ (b : Bool). part_by (Gap (length body)) b c (body ++ after)) no_white
    ∙ ap (λ (t : List ℕ). comment (c ∷ t)) (take_at body after (length body) refl)

comment_either : (bytes after : List ℕ) → IsComment bytes → EndsLine after → IsFirst (comment bytes) after
comment_either bytes after (body, inl is, all) ends = subst (λ (b : List ℕ). IsFirst (comment b) after) (sym is) (comment_first 33 body after refl refl all ends)
comment_either bytes after (body, inr is, all) ends = subst (λ (b : List ℕ). IsFirst (comment b) after) (sym is) (comment_first 47 (47 ∷ body) after refl refl (refl, all) ends)

run_first : (c : ℕ) (body after : List ℕ) → is_run c ≡ true → AllPass is_run body → Ends is_run after → IsFirst (token kind.Run (c ∷ body)) after
run_first c body after run all ends =
    ap (λ (f : Front). part_by f (is_white c) c (body ++ after)) (run_front c body after run all ends)
    ∙ ap (λ (t : List ℕ). token kind.Run (c ∷ t)) (take_at body after (length body) refl)

-- a part before what follows it is what stands at the front there
first_is : (p : Part) (after : List ℕ) → IsPart p after → IsFirst p after
first_is (white c) after is = white_first c after is
first_is (comment bytes) after is = comment_either bytes after is.0 is.1
first_is (token kind.Run []) after is = absurd (omega (arith, is.0))
first_is (token kind.Run (c ∷ body)) after is = run_first c body after is.1.0 is.1.1 is.2
first_is (token kind.Open bytes) after is = subst (λ (b : List ℕ). IsFirst (token kind.Open b) after) (sym is) refl
first_is (token kind.Close bytes) after is = subst (λ (b : List ℕ). IsFirst (token kind.Close b) after) (sym is) refl
first_is (token kind.Semi bytes) after is = subst (λ (b : List ℕ). IsFirst (token kind.Semi b) after) (sym is) refl

none_left : (p : Part) (text after : List ℕ) → text ≡ [] → text ≡ bytes_of p ++ after → IsPart p after → ⊥
none_left p text after none is fits =
    let empty : length (bytes_of p ++ after) ≡ 0 = ap length (sym is ∙ none) in
    omega (arith, part_holds p after fits, length-append (bytes_of p) after)

pub parts_are_one : PartsAreOne
parts_are_one text [] [] d e = refl
parts_are_one text [] (q ∷ qs) d (after, is, fits, more) = absurd (none_left q text after d is fits)
parts_are_one text (p ∷ ps) [] (after, is, fits, more) e = absurd (none_left p text after e is fits)
parts_are_one text (p ∷ ps) (q ∷ qs) (after, is, fits, more) (behind, also, stands, others) =
    let same : q ≡ p = sym (first_is q behind stands) ∙ ap first_part (sym also ∙ is) ∙ first_is p after fits in
    let rest : behind ≡ after = append_cancel_left (bytes_of p) behind after (ap (λ (r : Part). bytes_of r ++ behind) (sym same) ∙ sym also ∙ is) in
    ap (λ (rs : List Part). p ∷ rs) (parts_are_one after ps qs more (subst (λ (t : List ℕ). Divides qs t []) rest others)) ∙ ap (λ (r : Part). r ∷ qs) (sym same)

-- ---- what parts join to

joined : (parts : List Part) (text rest : List ℕ) → Divides parts text rest → flat_map bytes_of parts ++ rest ≡ text
joined [] text rest is = sym is
joined (p ∷ parts) text rest (after, is, fits, more) =
    append_assoc (bytes_of p) (flat_map bytes_of parts) rest ∙ ap (λ (t : List ℕ). bytes_of p ++ t) (joined parts after rest more) ∙ sym is

pub parts_join : PartsJoin
parts_join text parts is = sym (append-nil (flat_map bytes_of parts)) ∙ joined parts text [] is

no_run_behind : (second here more : List ℕ) → here ≡ second ++ more → 0 < length second → AllPass is_run second → Ends is_run here → ⊥
no_run_behind [] here more is holds all ends = omega arith
no_run_behind (c ∷ second) here more is holds all ends =
    let run : is_run c ≡ true = all.0 in
    let none : is_run c ≡ false = subst (Ends is_run) is ends in
    cc

pub runs_stand_apart : RunsStandApart
runs_stand_apart [] after first second text rest (here, is, fits, (behind, also, stands, more)) = no_run_behind second here behind also stands.0 stands.1 fits.2
runs_stand_apart (p ∷ before) after first second text rest (here, is, fits, more) = runs_stand_apart before after first second here rest more
