-- The laws of the order of lists of bits. These proof terms stand here since the impls name them: there is nothing to
-- judge but what they say.
use Rattle.std.proofs.Common.{◌≡◌, Bool, true, false, List, [], ◌∷◌, length, refl, sym, ap, ◌∙◌}
use mathlib.Core.Bool.{beq}
use Rattle.std.specs.Cmp.{IsEquivalence, IsTotalOrder, bool_cmp_total}
use Rattle.std.specs.Cmp.Lexicographic.{pointwise, slice_cmp}
use Rattle.std.specs.Ordering.{bool_cmp, is_eq, nat_cmp, ordering_then}
use Rattle.std.specs.declared.cmp.Ordering.{Ordering}
use Rattle.std.specs.declared.cmp.Ordering.TheVariants.{Less, Equal, Greater}
use Rattle.std.proofs.lemmas.Cmp.{eq_by_cmp_equiv, lists_total, nat_cmp_total, on_total, then_total, tied_itself}
use Rattle.jt_bits.specs.Order.{bits_order}

pub bits_order_total : IsTotalOrder bits_order
unfolding bits_order
bits_order_total = then_total (on_total length nat_cmp_total) (lists_total bool_cmp_total)

second_equal : (o r : Ordering) → is_eq (ordering_then o r) ≡ true → is_eq r ≡ true
second_equal Less r h = absurd cc
second_equal Equal r h = h
second_equal Greater r h = absurd cc

same_by_cmp : (p q : List Bool) → is_eq (slice_cmp bool_cmp p q) ≡ true → p ≡ q
same_by_cmp [] [] h = refl
same_by_cmp [] (y ∷ q) h = absurd cc
same_by_cmp (x ∷ p) [] h = absurd cc
same_by_cmp (true ∷ p) (true ∷ q) h = ap (λ (l : List Bool). true ∷ l) (same_by_cmp p q h)
same_by_cmp (false ∷ p) (false ∷ q) h = ap (λ (l : List Bool). false ∷ l) (same_by_cmp p q h)
same_by_cmp (true ∷ p) (false ∷ q) h = absurd cc
same_by_cmp (false ∷ p) (true ∷ q) h = absurd cc

-- what the order does not tell apart is the same
pub order_same : (p q : List Bool) → is_eq (bits_order p q) ≡ true → p ≡ q
unfolding bits_order
order_same p q h = same_by_cmp p q (second_equal (nat_cmp (length p) (length q)) (slice_cmp bool_cmp p q) h)

pub order_itself : (p : List Bool) → bits_order p p ≡ Equal
order_itself p = tied_itself bits_order_total p

two_tests : (a b : Bool) → (a ≡ true → b ≡ true) → (b ≡ true → a ≡ true) → a ≡ b
two_tests true b f g = sym (f refl)
two_tests false true f g = g refl
two_tests false false f g = refl

same_by_bits : (p q : List Bool) → pointwise beq p q ≡ true → p ≡ q
same_by_bits [] [] h = refl
same_by_bits [] (y ∷ q) h = absurd cc
same_by_bits (x ∷ p) [] h = absurd cc
same_by_bits (true ∷ p) (true ∷ q) h = ap (λ (l : List Bool). true ∷ l) (same_by_bits p q h)
same_by_bits (false ∷ p) (false ∷ q) h = ap (λ (l : List Bool). false ∷ l) (same_by_bits p q h)
same_by_bits (true ∷ p) (false ∷ q) h = absurd cc
same_by_bits (false ∷ p) (true ∷ q) h = absurd cc

bits_itself : (p : List Bool) → pointwise beq p p ≡ true
bits_itself [] = refl
bits_itself (true ∷ p) = bits_itself p
bits_itself (false ∷ p) = bits_itself p

pub bits_order_ties : (p q : List Bool) → pointwise beq p q ≡ is_eq (bits_order p q)
bits_order_ties p q =
    two_tests (pointwise beq p q) (is_eq (bits_order p q))
    (λ e. ap (λ (r : List Bool). is_eq (bits_order p r)) (sym (same_by_bits p q e)) ∙ ap is_eq (order_itself p))
    (λ e. ap (pointwise beq p) (sym (order_same p q e)) ∙ bits_itself p)

pub bits_equiv : IsEquivalence (pointwise beq)
bits_equiv = record {
  refl = bits_itself;
  symm = λ p q. bits_order_ties p q ∙ (eq_by_cmp_equiv bits_order_total).symm p q ∙ sym (bits_order_ties q p);
  congr = λ p q r e. ap (λ (l : List Bool). pointwise beq l r) (same_by_bits p q e);
}
