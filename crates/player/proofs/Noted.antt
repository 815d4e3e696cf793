-- Failures that are kept.
use Rattle.std.proofs.Common.{◌≡◌, ◌+◌, ◌≤◌, ℕ, zero, suc, List, [], ◌∷◌, ◌++◌, length, take, false, refl, sym, ap, subst, arith, length-append}
use Rattle.std.proofs.lemmas.List.{length-take}
use Rattle.play_model.specs.declared.kind.Kind.{Kind}
use Rattle.play_model.specs.declared.kind.Kind.TheVariants.{Stops, PlaysOn}
use Rattle.play_model.specs.PlayingOn.{Mismatch}
use Rattle.play_model.specs.Streams.{Found, count_kept, most_kept, stops_for, with_more}
use Rattle.scan_vectors.specs.Failures.{with_found}
use Rattle.player.specs.Findings.{IsCounted}

take-most : {A : Type 0} (n : ℕ) (l : List A) → length l ≤ n → take n (l ++ []) ≡ l
take-most zero [] le = refl
take-most zero (x ∷ l) le = absurd (omega (arith, le))
take-most (suc n) [] le = refl
take-most (suc n) (x ∷ l) le = ap (λ k. x ∷ k) (take-most n l (omega (arith, le)))

-- no more failures change nothing
pub nothing-more : (kind : Kind) (f : Found) → IsCounted kind f → with_more kind [] f ≡ f
nothing-more kind f i = (λ k. record { list = take-most (most_kept kind) f.list few k; total = same kind i.counted k })
  where
    few : length f.list ≤ most_kept kind
    few = omega (arith, i.listed)

    same : (kind : Kind) → count_kept kind f.total ≡ f.total → count_kept kind (f.total + 0) ≡ f.total
    same Stops e = omega (arith, e)
    same PlaysOn e = omega arith

no-list : (l : List Mismatch) → stops_for Stops l ≡ false → l ≡ []
no-list [] e = refl
no-list (m ∷ l) e = absurd (cc)

-- one more, of a player that does not stop for an earlier one
pub counts-more : (kind : Kind) (f g : Found) (m : Mismatch) → IsCounted kind f → stops_for kind f.list ≡ false → g ≡ with_found (m ∷ []) f → IsCounted kind g
counts-more kind f g m i goes e = subst (IsCounted kind) (sym e) (so kind i goes)
  where
    so : (kind : Kind) → IsCounted kind f → stops_for kind f.list ≡ false → IsCounted kind (with_found (m ∷ []) f)
    so Stops i goes =
        let none : length f.list ≡ 0 = ap length (no-list f.list goes) in
        record {
          listed = omega (arith, i.listed, none, length-take 256 (f.list ++ m ∷ []), length-append f.list (m ∷ []));
          counted = omega (arith, i.listed, none);
        }
    so PlaysOn i goes = record {
      listed = omega (arith, i.listed, length-take 256 (f.list ++ m ∷ []), length-append f.list (m ∷ []));
      counted = refl;
    }
