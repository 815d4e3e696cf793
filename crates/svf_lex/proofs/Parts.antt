-- The cut of a text that is a row of parts.
use Rattle.std.proofs.Common.{◌≡◌, ℕ, ◌+◌, ◌<◌, true, false, List, [], ◌∷◌, ◌++◌, length, map, refl, sym, ap, subst, inl, inr, arith}
use Rattle.std.specs.List.{AllByRecursion}
use Rattle.std.proofs.lemmas.Bool.Decides.{nat_tests}
use Rattle.svf_lex.specs.declared.Kind.{Kind}
use Rattle.svf_lex.specs.declared.Kind.TheVariants as kind
use Rattle.svf_lex.specs.declared.scan.Front.TheVariants.{Gap, Token}
use Rattle.token_runs.specs.Bytes.{is_white}
use Rattle.svf_lex.specs.Bytes.{is_run, begins_comment}
use Rattle.svf_lex.specs.Cutting.{piece, cut, front}
use Rattle.svf_lex.specs.Gaps.{Part, white, comment, token, bytes_of, IsComment, IsPart, tokens_at}
use Rattle.token_runs.specs.Runs.{Ends, AllPass, EndsLine, IsInLine}
use Rattle.token_runs.proofs.RunFronts.{prefix_len-append, is_in_line, pass_in_line, ends_in_line}
use Rattle.svf_lex.proofs.Steps.{gap_cut, token_cut}

-- a run and what is no run
pub run_is_no_gap : (c : ℕ) (cs : List ℕ) → is_run c ≡ true → (is_white c ≡ false) × (begins_comment c cs ≡ false)
run_is_no_gap c cs h = (grind (arith, nat_tests), grind (arith, nat_tests))

pub comment_front : (c : ℕ) (body after : List ℕ) → is_white c ≡ false → begins_comment c (body ++ after) ≡ true → AllByRecursion IsInLine body → EndsLine after
    → front c (body ++ after) ≡ Gap (length body)
comment_front c body after no_white begins all ends =
    rw (no_white, begins) (ap Gap (prefix_len-append is_in_line body after (pass_in_line body all) (ends_in_line after ends)))

pub run_front : (c : ℕ) (body after : List ℕ) → is_run c ≡ true → AllPass is_run body → Ends is_run after → front c (body ++ after) ≡ Token kind.Run (length body)
run_front c body after run all ends =
    let no_white : is_white c ≡ false = (run_is_no_gap c (body ++ after) run).0 in
    let no_comment : begins_comment c (body ++ after) ≡ false = (run_is_no_gap c (body ++ after) run).1 in
    rw (no_white, no_comment, run) (ap (Token kind.Run) (prefix_len-append is_run body after all ends))

-- the cuts of a text that begins with a part
abbrev PartCut : ℕ → Part → List ℕ → Type 0
PartCut at p after = cut 0 at (bytes_of p ++ after) ≡ map piece (tokens_at at (p ∷ [])) ++ cut 0 (at + length (bytes_of p)) after

comment_part : (at : ℕ) (bytes after : List ℕ) → IsComment bytes → EndsLine after → PartCut at (comment bytes) after
comment_part at bytes after (body, inl is, all) ends =
    subst (λ (b : List ℕ). PartCut at (comment b) after) (sym is) (gap_cut at 33 body after (comment_front 33 body after refl refl all ends))
comment_part at bytes after (body, inr is, all) ends =
    subst (λ (b : List ℕ). PartCut at (comment b) after) (sym is) (gap_cut at 47 (47 ∷ body) after (comment_front 47 (47 ∷ body) after refl refl (refl, all) ends))

mark_part : (at c : ℕ) (k : Kind) (bytes after : List ℕ) → bytes ≡ c ∷ [] → front c after ≡ Token k 0 → PartCut at (token k bytes) after
mark_part at c k bytes after is stands = subst (λ (b : List ℕ). PartCut at (token k b) after) (sym is) (token_cut k at c [] after stands)

pub part_cut : (at : ℕ) (p : Part) (after : List ℕ) → IsPart p after → PartCut at p after
part_cut at (white c) after is = let stands : front c after ≡ Gap 0 = let here : is_white c ≡ true = is in rw here refl in gap_cut at c [] after stands
part_cut at (comment bytes) after is = comment_part at bytes after is.0 is.1
part_cut at (token kind.Run []) after is = absurd (omega (arith, is.0))
part_cut at (token kind.Run (c ∷ body)) after is = token_cut kind.Run at c body after (run_front c body after is.1.0 is.1.1 is.2)
part_cut at (token kind.Open bytes) after is = mark_part at 40 kind.Open bytes after is refl
part_cut at (token kind.Close bytes) after is = mark_part at 41 kind.Close bytes after is refl
part_cut at (token kind.Semi bytes) after is = mark_part at 59 kind.Semi bytes after is refl

-- ---- a part has a byte

token_holds : (k : Kind) (bytes after : List ℕ) → IsPart (token k bytes) after → 0 < length bytes
token_holds kind.Run bytes after is = is.0
token_holds kind.Open bytes after is = omega (arith, ap length is)
token_holds kind.Close bytes after is = omega (arith, ap length is)
token_holds kind.Semi bytes after is = omega (arith, ap length is)

comment_holds : (bytes : List ℕ) → IsComment bytes → 0 < length bytes
comment_holds bytes (body, inl is, all) = omega (arith, ap length is)
comment_holds bytes (body, inr is, all) = omega (arith, ap length is)

pub part_holds : (p : Part) (after : List ℕ) → IsPart p after → 0 < length (bytes_of p)
part_holds (white c) after is = omega arith
part_holds (comment bytes) after is = comment_holds bytes is.0
part_holds (token k bytes) after is = token_holds k bytes after is
