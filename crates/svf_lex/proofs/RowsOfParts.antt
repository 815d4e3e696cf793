-- Each text is a row of parts up to its end or to a byte that begins nothing, and its cut is theirs.
use Rattle.std.proofs.Common.{◌≡◌, ℕ, zero, suc, ◌+◌, Bool, true, false, nat_eq, List, [], ◌∷◌, ◌++◌, length, take, drop, get_or, map, refl, sym, ap, ◌∙◌, ◌⊎◌, inl, inr, arith}
use Rattle.std.proofs.lemmas.List.{take-append-drop, length-append}
use Rattle.std.specs.List.{prefix_len, flat_map}
use Rattle.std.proofs.lemmas.Bool.Decides.{nat_tests}
use Rattle.svf_lex.specs.declared.Kind.TheVariants as kind
use Rattle.token_runs.specs.Bytes.{is_white}
use Rattle.svf_lex.specs.Bytes.{is_run, is_mark, begins_comment}
use Rattle.svf_lex.specs.Cutting.{Cut, piece, cut}
use Rattle.svf_lex.specs.Gaps.{Part, white, comment, token, bytes_of, IsComment, IsPart, Divides, tokens_at, BeginsNothing}
use Rattle.token_runs.proofs.RunFronts.{prefix_passes, prefix_ends, is_in_line, all_in_line, line_ends}
use Rattle.svf_lex.proofs.Parts.{part_cut}

tokens_more : (at : ℕ) (p : Part) (parts : List Part) (cuts : List Cut)
    → map piece (tokens_at at (p ∷ [])) ++ (map piece (tokens_at (at + length (bytes_of p)) parts) ++ cuts) ≡ map piece (tokens_at at (p ∷ parts)) ++ cuts
tokens_more at (white c) parts cuts = refl
tokens_more at (comment bytes) parts cuts = refl
tokens_more at (token k bytes) parts cuts = refl

pub divides_cut : (at : ℕ) (parts : List Part) (text rest : List ℕ) → Divides parts text rest
    → cut 0 at text ≡ map piece (tokens_at at parts) ++ cut 0 (at + length (flat_map bytes_of parts)) rest
divides_cut at [] text rest is = let place : at ≡ at + 0 = omega arith in ap (cut 0 at) is ∙ ap (λ (p : ℕ). cut 0 p rest) place
divides_cut at (p ∷ parts) text rest (after, is, fits, more) =
    let n = length (bytes_of p) in
    let place : at + n + length (flat_map bytes_of parts) ≡ at + length (flat_map bytes_of (p ∷ parts)) = omega (arith, length-append (bytes_of p) (flat_map bytes_of parts)) in
    ap (cut 0 at) is ∙ part_cut at p after fits
    ∙ ap (λ (cuts : List Cut). map piece (tokens_at at (p ∷ [])) ++ cuts) (divides_cut (at + n) parts after rest more)
    ∙ tokens_more at p parts (cut 0 (at + n + length (flat_map bytes_of parts)) rest)
    ∙ ap (λ (q : ℕ). map piece (tokens_at at (p ∷ parts)) ++ cut 0 q rest) place

-- ---- the parts of any text

-- parts up to the text's end or to a byte that begins nothing
pub record Found (text : List ℕ) : Type 0 where
  pub parts : List Part
  pub rest : List ℕ
  pub divides : Divides parts text rest
  pub ends : (rest ≡ []) ⊎ ((c : ℕ) × (more : List ℕ) × (rest ≡ c ∷ more) × BeginsNothing c more)

before : (p : Part) (text after : List ℕ) → text ≡ bytes_of p ++ after → IsPart p after → Found after → Found text
before p text after is fits f = record { parts = p ∷ f.parts; rest = f.rest; divides = (after, is, fits, f.divides); ends = f.ends }

equal_from_test : (c d : ℕ) → nat_eq c d ≡ true → c ≡ d
equal_from_test c d e = grind (arith, nat_tests)

slashes : (c d : ℕ) (ds : List ℕ) → c ≡ 47 → d ≡ 47 → IsComment (c ∷ take (prefix_len is_in_line (d ∷ ds)) (d ∷ ds))
slashes c d ds is also =
    let one : 1 + prefix_len is_in_line ds ≡ suc (prefix_len is_in_line ds) = omega arith in
    rw (is, also, one) (take (prefix_len is_in_line ds) ds, inr refl, all_in_line _ (prefix_passes is_in_line ds))

begun : (c : ℕ) (cs : List ℕ) → (c ≡ 33) ⊎ ((c ≡ 47) × (get_or cs 0 0 ≡ 47)) → IsComment (c ∷ take (prefix_len is_in_line cs) cs)
begun c cs (inl is) = rw is (take (prefix_len is_in_line cs) cs, inl refl, all_in_line _ (prefix_passes is_in_line cs))
begun c [] (inr (is, next)) = absurd (omega arith)
begun c (d ∷ ds) (inr (is, next)) = slashes c d ds is next

begins_by : (c d : ℕ) (b : Bool) → nat_eq c 33 ≡ b → begins_comment c (d ∷ []) ≡ true → (c ≡ 33) ⊎ ((c ≡ 47) × (d ≡ 47))
begins_by c d true is begins = inl (equal_from_test c 33 is)
begins_by c d false is begins = inr (grind (arith, nat_tests), grind (arith, nat_tests))

module _ (c : ℕ) (cs : List ℕ) (later : (n : ℕ) → Found (drop n cs)) where
  whole : (n : ℕ) → c ∷ cs ≡ (c ∷ take n cs) ++ drop n cs
  whole n = ap (λ (t : List ℕ). c ∷ t) (sym (take-append-drop n cs))

  found_comment : begins_comment c cs ≡ true → Found (c ∷ cs)
  found_comment begins =
      let n = prefix_len is_in_line cs in
      before (comment (c ∷ take n cs)) (c ∷ cs) (drop n cs) (whole n)
      (begun c cs (begins_by c (get_or cs 0 0) (nat_eq c 33) refl begins), line_ends (drop n cs) (prefix_ends is_in_line cs)) (later n)

  found_run : is_run c ≡ true → Found (c ∷ cs)
  found_run run =
      let n = prefix_len is_run cs in
      before (token kind.Run (c ∷ take n cs)) (c ∷ cs) (drop n cs) (whole n)
      (omega arith, (run, prefix_passes is_run cs), prefix_ends is_run cs) (later n)

  found_mark : is_white c ≡ false → begins_comment c cs ≡ false → is_run c ≡ false → (a b d : Bool) → nat_eq c 40 ≡ a → nat_eq c 41 ≡ b → nat_eq c 59 ≡ d → Found (c ∷ cs)
  found_mark no_white no_comment no_run true b d open_is close_is semi_is =
      before (token kind.Open (c ∷ [])) (c ∷ cs) cs refl (ap (λ (x : ℕ). x ∷ []) (equal_from_test c 40 open_is)) (later 0)
  found_mark no_white no_comment no_run false true d open_is close_is semi_is =
      before (token kind.Close (c ∷ [])) (c ∷ cs) cs refl (ap (λ (x : ℕ). x ∷ []) (equal_from_test c 41 close_is)) (later 0)
  found_mark no_white no_comment no_run false false true open_is close_is semi_is =
      before (token kind.Semi (c ∷ [])) (c ∷ cs) cs refl (ap (λ (x : ℕ). x ∷ []) (equal_from_test c 59 semi_is)) (later 0)
  found_mark no_white no_comment no_run false false false open_is close_is semi_is =
      let no_mark : is_mark c ≡ false = rw (open_is, close_is, semi_is) refl in
      record { parts = []; rest = c ∷ cs; divides = refl; ends = inr (c, cs, refl, record { white = no_white; comment = no_comment; run = no_run; mark = no_mark }) }

  found_here : (a b d : Bool) → is_white c ≡ a → begins_comment c cs ≡ b → is_run c ≡ d → Found (c ∷ cs)
  found_here true b d white_is comment_is run_is = before (white c) (c ∷ cs) cs refl white_is (later 0)
  found_here false true d white_is comment_is run_is = found_comment comment_is
  found_here false false true white_is comment_is run_is = found_run run_is
  found_here false false false white_is comment_is run_is = found_mark white_is comment_is run_is (nat_eq c 40) (nat_eq c 41) (nat_eq c 59) refl refl refl

found_behind : (text : List ℕ) (n : ℕ) → Found (drop n text)
found_behind [] zero = record { parts = []; rest = []; divides = refl; ends = inl refl }
found_behind [] (suc n) = record { parts = []; rest = []; divides = refl; ends = inl refl }
found_behind (c ∷ cs) zero = found_here c cs (λ n. found_behind cs n) (is_white c) (begins_comment c cs) (is_run c) refl refl refl
found_behind (c ∷ cs) (suc n) = found_behind cs n

pub found : (text : List ℕ) → Found text
found text = found_behind text 0
