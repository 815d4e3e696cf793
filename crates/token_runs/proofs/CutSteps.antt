-- One step of a cut that goes on byte by byte.
use Rattle.std.proofs.Common.{◌≡◌, ℕ, zero, suc, ◌+◌, ◌-◌, ◌<◌, ◌≤◌, List, [], ◌∷◌, ◌++◌, length, take, drop, get_or, sym, ap, ◌∙◌, subst, arith}
use Rattle.std.proofs.lemmas.List.{drop-drop, drop_all, drop_at, drop_more, take_at, take_rest, length-take-le}

-- A cut of a text from a place on, of whose bytes the first some belong to what was cut before: what stands at the
-- front of a byte and those behind it has so many bytes behind its first, and is put before the cuts behind it.
pub record CutsBy (F C : Type 0) (front : ℕ → List ℕ → F) (behind : F → ℕ) (put : F → ℕ → ℕ → List ℕ → List C → List C) (cut : ℕ → ℕ → List ℕ → List C) : Type 0 where
  pub ends : (skip at : ℕ) → cut skip at [] ≡ []
  pub skips : (k at c : ℕ) (cs : List ℕ) → cut (suc k) at (c ∷ cs) ≡ cut k (at + 1) cs
  pub begins : (at c : ℕ) (cs : List ℕ) → cut 0 at (c ∷ cs) ≡ put (front c cs) at c cs (cut (behind (front c cs)) (at + 1) cs)

-- what stands behind a place of a source, as a slice
abbrev pub rest_of : List ℕ → ℕ → List ℕ
rest_of source at = take (length source - (at + 1)) (drop (at + 1) source)

-- the bytes of a token, as a slice
abbrev pub part_of : List ℕ → ℕ → ℕ → List ℕ
part_of source at n = take (at + 1 + n - at) (drop at source)

pub part-cons : (source : List ℕ) (at n : ℕ) → at < length source → part_of source at n ≡ get_or source at 0 ∷ take n (drop (at + 1) source)
part-cons source at n lt =
    let size : at + 1 + n - at ≡ suc n = omega arith in
    rw size (ap (take (suc n)) (drop_more source at 0 lt))

module _ {F C : Type 0} {front : ℕ → List ℕ → F} {behind : F → ℕ} {put : F → ℕ → ℕ → List ℕ → List C → List C} {cut : ℕ → ℕ → List ℕ → List C} (steps : CutsBy F C front behind put cut) where
  -- the bytes that belong to what was cut before
  pub cut_skips : (skip at : ℕ) (text : List ℕ) → cut skip at text ≡ cut 0 (at + skip) (drop skip text)
  cut_skips zero at text = let place : at ≡ at + 0 = omega arith in ap (λ (p : ℕ). cut 0 p text) place
  cut_skips (suc k) at [] = steps.ends (suc k) at ∙ sym (steps.ends 0 (at + suc k))
  cut_skips (suc k) at (c ∷ cs) =
      let place : at + 1 + k ≡ at + suc k = omega arith in
      steps.skips k at c cs ∙ cut_skips k (at + 1) cs ∙ ap (λ (p : ℕ). cut 0 p (drop k cs)) place

  -- where f stands at the front
  pub cut-cons : (at c : ℕ) (cs : List ℕ) (f : F) → front c cs ≡ f → cut 0 at (c ∷ cs) ≡ put f at c cs (cut 0 (at + 1 + behind f) (drop (behind f) cs))
  cut-cons at c cs f is =
      steps.begins at c cs ∙ ap (put (front c cs) at c cs) (cut_skips (behind (front c cs)) (at + 1) cs)
      ∙ ap (λ (g : F). put g at c cs (cut 0 (at + 1 + behind g) (drop (behind g) cs))) is

  -- the same at a place of a source
  pub cut_at : (source : List ℕ) (at : ℕ) (f : F) → at < length source → f ≡ front (get_or source at 0) (rest_of source at)
      → cut 0 at (drop at source) ≡ put f at (get_or source at 0) (drop (at + 1) source) (cut 0 (at + 1 + behind f) (drop (at + 1 + behind f) source))
  cut_at source at f lt is =
      let c = get_or source at 0 in
      let cs = drop (at + 1) source in
      ap (cut 0 at) (drop_more source at 0 lt) ∙ cut-cons at c cs f (ap (front c) (sym (take_rest source (at + 1))) ∙ sym is)
      ∙ ap (λ (t : List ℕ). put f at c cs (cut 0 (at + 1 + behind f) t)) (drop-drop (behind f) (at + 1) source)

  pub at_end : (source : List ℕ) (at : ℕ) → length source ≤ at → cut 0 at (drop at source) ≡ []
  at_end source at past = ap (cut 0 at) (drop_all at source past) ∙ steps.ends 0 at

  -- a gap, which puts nothing before
  module _ (f : F) (gap : (at c : ℕ) (cs : List ℕ) (cuts : List C) → put f at c cs cuts ≡ cuts) where
    pub at_gap : (source : List ℕ) (at : ℕ) → at < length source → f ≡ front (get_or source at 0) (rest_of source at)
        → cut 0 at (drop at source) ≡ cut 0 (at + (1 + behind f)) (drop (at + (1 + behind f)) source)
    at_gap source at lt is =
        let place : at + 1 + behind f ≡ at + (1 + behind f) = omega arith in
        cut_at source at f lt is ∙ gap at _ _ _ ∙ ap (λ (p : ℕ). cut 0 p (drop p source)) place

    pub gap_cut : (at c : ℕ) (body after : List ℕ) → length body ≡ behind f → front c (body ++ after) ≡ f → cut 0 at (c ∷ (body ++ after)) ≡ cut 0 (at + suc (length body)) after
    gap_cut at c body after long stands =
        let place : at + 1 + behind f ≡ at + suc (length body) = omega (arith, long) in
        cut-cons at c (body ++ after) f stands ∙ gap at _ _ _ ∙ ap (cut 0 (at + 1 + behind f)) (drop_at body after (behind f) long) ∙ ap (λ (p : ℕ). cut 0 p after) place

  -- a token, which is put before
  module _ (f : F) (made : ℕ → List ℕ → C) (token : (at c : ℕ) (cs : List ℕ) (cuts : List C) → put f at c cs cuts ≡ made at (c ∷ take (behind f) cs) ∷ cuts) where
    pub at_token : (source : List ℕ) (at : ℕ) → at < length source → behind f ≤ length (rest_of source at) → f ≡ front (get_or source at 0) (rest_of source at)
        → cut 0 at (drop at source)
        ≡ made at (part_of source at (behind f)) ∷ cut 0 (at + length (part_of source at (behind f))) (drop (at + length (part_of source at (behind f))) source)
    at_token source at lt fits is =
        let n = behind f in
        let fit : n ≤ length (drop (at + 1) source) = subst (λ (t : List ℕ). n ≤ length t) (take_rest source (at + 1)) fits in
        let size : at + 1 + n ≡ at + length (part_of source at n) = omega (arith, ap length (part-cons source at n lt), length-take-le n (drop (at + 1) source) fit) in
        cut_at source at f lt is ∙ token at _ _ _
        ∙ ap (λ (t : List ℕ). made at t ∷ cut 0 (at + 1 + n) (drop (at + 1 + n) source)) (sym (part-cons source at n lt))
        ∙ ap (λ (p : ℕ). made at (part_of source at n) ∷ cut 0 p (drop p source)) size

    pub token_cut : (at c : ℕ) (body after : List ℕ) → length body ≡ behind f → front c (body ++ after) ≡ f → cut 0 at (c ∷ (body ++ after)) ≡ made at (c ∷ body) ∷ cut 0 (at + suc (length body)) after
    token_cut at c body after long stands =
        let place : at + 1 + behind f ≡ at + suc (length body) = omega (arith, long) in
        cut-cons at c (body ++ after) f stands ∙ token at _ _ _
        ∙ ap (λ (t : List ℕ). made at (c ∷ t) ∷ cut 0 (at + 1 + behind f) (drop (behind f) (body ++ after))) (take_at body after (behind f) long)
        ∙ ap (λ (t : List ℕ). made at (c ∷ body) ∷ cut 0 (at + 1 + behind f) t) (drop_at body after (behind f) long)
        ∙ ap (λ (p : ℕ). made at (c ∷ body) ∷ cut 0 p after) place
