-- A cut tells its tokens, and the byte that begins nothing where there is one: so a text has one cutting.
use Rattle.std.proofs.Common.{◌≡◌, ℕ, List, [], ◌∷◌, ◌++◌, map, refl, sym, ap₂, ◌∙◌, subst, ◌⊎◌, inl, inr}

-- pieces and bad places that are told apart
pub record Apart (L C : Type 0) (piece : L → C) (bad : ℕ → C) : Type 0 where
  pub tokens : (t u : L) → piece t ≡ piece u → t ≡ u
  pub places : (p q : ℕ) → bad p ≡ bad q → p ≡ q
  pub never : (t : L) (p : ℕ) → piece t ≡ bad p → ⊥

-- the cuts of a text are its tokens, or those before a byte that begins nothing, and each text has the one or the other
pub record Cutting (L C : Type 0) (piece : L → C) (bad : ℕ → C) (cuts : List C) (Tokens : List L → Type 0) (Bad : List L → ℕ → Type 0) : Type 0 where
  pub apart : Apart L C piece bad
  pub tokens_cut : (ts : List L) → Tokens ts → cuts ≡ map piece ts
  pub bad_cut : (ts : List L) (p : ℕ) → Bad ts p → cuts ≡ map piece ts ++ bad p ∷ []
  pub each : ((ts : List L) × Tokens ts) ⊎ ((ts : List L) × (p : ℕ) × Bad ts p)

module _ {L C : Type 0} {piece : L → C} {bad : ℕ → C} (apart : Apart L C piece bad) where
  pub same_tokens : (ts us : List L) → map piece ts ≡ map piece us → ts ≡ us
  same_tokens [] [] e = refl
  same_tokens [] (u ∷ us) e = cc
  same_tokens (t ∷ ts) [] e = cc
  same_tokens (t ∷ ts) (u ∷ us) e =
      let tail : map piece ts ≡ map piece us = cc in
      let head : piece t ≡ piece u = cc in
      ap₂ (λ (x : L) (xs : List L). x ∷ xs) (apart.tokens t u head) (same_tokens ts us tail)

  same_bad : (ts us : List L) (p q : ℕ) → map piece ts ++ bad p ∷ [] ≡ map piece us ++ bad q ∷ [] → (ts ≡ us) × (p ≡ q)
  same_bad [] [] p q e = let head : bad p ≡ bad q = cc in (refl, apart.places p q head)
  same_bad [] (u ∷ us) p q e = let head : bad p ≡ piece u = cc in absurd (apart.never u p (sym head))
  same_bad (t ∷ ts) [] p q e = let head : piece t ≡ bad q = cc in absurd (apart.never t q head)
  same_bad (t ∷ ts) (u ∷ us) p q e =
      let tail : map piece ts ++ bad p ∷ [] ≡ map piece us ++ bad q ∷ [] = cc in
      let head : piece t ≡ piece u = cc in
      let more = same_bad ts us p q tail in
      (ap₂ (λ (x : L) (xs : List L). x ∷ xs) (apart.tokens t u head) more.0, more.1)

  never_bad : (ts us : List L) (q : ℕ) → map piece ts ≡ map piece us ++ bad q ∷ [] → ⊥
  never_bad [] [] q e = cc
  never_bad [] (u ∷ us) q e = cc
  never_bad (t ∷ ts) [] q e = let head : piece t ≡ bad q = cc in apart.never t q head
  never_bad (t ∷ ts) (u ∷ us) q e = let tail : map piece ts ≡ map piece us ++ bad q ∷ [] = cc in never_bad ts us q tail

module _ {L C : Type 0} {piece : L → C} {bad : ℕ → C} {cuts : List C} {Tokens : List L → Type 0} {Bad : List L → ℕ → Type 0} (k : Cutting L C piece bad cuts Tokens Bad) where
  pub tokens_are_one : (ts us : List L) → Tokens ts → Tokens us → ts ≡ us
  tokens_are_one ts us t u = same_tokens k.apart ts us (sym (k.tokens_cut ts t) ∙ k.tokens_cut us u)

  pub bad_byte_is_one : (ts us : List L) (p q : ℕ) → Bad ts p → Bad us q → (ts ≡ us) × (p ≡ q)
  bad_byte_is_one ts us p q t u = same_bad k.apart ts us p q (sym (k.bad_cut ts p t) ∙ k.bad_cut us q u)

  pub never_both : (ts us : List L) (q : ℕ) → Tokens ts → Bad us q → ⊥
  never_both ts us q t u = never_bad k.apart ts us q (sym (k.tokens_cut ts t) ∙ k.bad_cut us q u)

  tokens_by : (ts : List L) → cuts ≡ map piece ts → ((us : List L) × Tokens us) ⊎ ((us : List L) × (p : ℕ) × Bad us p) → Tokens ts
  tokens_by ts is (inl (us, u)) = subst Tokens (same_tokens k.apart us ts (sym (k.tokens_cut us u) ∙ is)) u
  tokens_by ts is (inr (us, p, u)) = absurd (never_bad k.apart ts us p (sym is ∙ k.bad_cut us p u))

  pub tokens_of : (ts : List L) → cuts ≡ map piece ts → Tokens ts
  tokens_of ts is = tokens_by ts is k.each

  bad_by : (ts : List L) (p : ℕ) → cuts ≡ map piece ts ++ bad p ∷ [] → ((us : List L) × Tokens us) ⊎ ((us : List L) × (q : ℕ) × Bad us q) → Bad ts p
  bad_by ts p is (inl (us, u)) = absurd (never_bad k.apart us ts p (sym (k.tokens_cut us u) ∙ is))
  bad_by ts p is (inr (us, q, u)) =
      let same = same_bad k.apart us ts q p (sym (k.bad_cut us q u) ∙ is) in
      subst (λ (xs : List L). Bad xs p) same.0 (subst (Bad us) same.1 u)

  pub bad_of : (ts : List L) (p : ℕ) → cuts ≡ map piece ts ++ bad p ∷ [] → Bad ts p
  bad_of ts p is = bad_by ts p is k.each
