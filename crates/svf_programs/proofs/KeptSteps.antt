-- A step that is kept, and the steps that are left.
use Rattle.std.proofs.Common.{◌≡◌, ◌<◌, ℕ, zero, suc, List, [], ◌∷◌, map, length, refl, ap, subst, ◌∙◌, get_or, Some, ◌+◌, drop, add-one}
use Rattle.std.specs.Prelude.{slice_get}
use Rattle.std.proofs.lemmas.List.{length-map}
use Rattle.std.proofs.lemmas.Option.{slice_get_read}
use Rattle.svf_parse.specs.Judging.{Said}
use Rattle.svf_programs.specs.declared.kept.KeptStep.{KeptStep}
use Rattle.svf_programs.specs.Held.{step_in, numbered_in}
use Rattle.svf_programs.specs.Sound.{IsWithin, AllWithin}

pub within_at : (all : List Said) (kept : List KeptStep) (i : ℕ) (k : KeptStep) → AllWithin (map (numbered_in all) kept) → slice_get kept i ≡ Some k
    → IsWithin (step_in all k.what)
within_at all [] i k w e = absurd (cc)
within_at all (x ∷ kept) zero k w e = let same : x ≡ k = cc in subst (λ (y : KeptStep). IsWithin (step_in all y.what)) same w.0
within_at all (x ∷ kept) (suc i) k w e = within_at all kept i k w.1 e

pub kept_at : (all : List Said) (kept : List KeptStep) (i : ℕ) (k : KeptStep) → slice_get kept i ≡ Some k
    → slice_get (map (numbered_in all) kept) i ≡ Some (numbered_in all k)
kept_at all [] i k e = absurd (cc)
kept_at all (x ∷ kept) zero k e = let same : x ≡ k = cc in ap (λ (y : KeptStep). Some (numbered_in all y)) same
kept_at all (x ∷ kept) (suc i) k e = kept_at all kept i k e

pub kept_read : (kept : List KeptStep) (all : List Said) (i : ℕ) (k : KeptStep) → i < length (map (numbered_in all) kept) → k ≡ get_or kept i k → slice_get kept i ≡ Some k
kept_read kept all i k h e = slice_get_read kept (length kept) i k refl (rw length-map at h) e

-- ---- the steps that are left

pub left_some : {A : Type 0} (xs : List A) (i : ℕ) (x : A) → slice_get xs i ≡ Some x → drop i xs ≡ x ∷ drop (i + 1) xs
left_some [] i x e = absurd (cc)
left_some (y ∷ xs) zero x e = let same : y ≡ x = cc in rw same refl
left_some (y ∷ xs) (suc i) x e = left_some xs i x e ∙ rw (add-one, add-one) refl
