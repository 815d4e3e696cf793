-- The laws of the order of names as keys.
use Rattle.std.proofs.Common.{◌≡◌, ℕ, List, refl, sym, ap, ◌∙◌}
use Rattle.std.specs.Prelude.{bytes_eq}
use Rattle.std.specs.Bool.{nat_eq}
use Rattle.std.specs.Cmp.{IsTotalOrder}
use Rattle.std.specs.Cmp.Lexicographic.{pointwise, slice_cmp, texts_ties}
use Rattle.std.specs.Ordering.{is_eq, nat_cmp, ordering_then}
use Rattle.std.specs.declared.cmp.Ordering.{Ordering}
use Rattle.std.specs.declared.cmp.Ordering.TheVariants.{Less, Equal, Greater}
use Rattle.std.proofs.lemmas.Cmp.{nat_cmp_total, nat_list_cmp_total, on_total, then_total, tied_itself}
use Rattle.std.proofs.lemmas.Map.Text.{is_eq-slice_cmp}
use Rattle.std.proofs.lemmas.Slice.Eq.{bytes_eq-Decides}
use Rattle.name_keys.specs.Keys.{end_of, key_order}

pub key_order_total : IsTotalOrder key_order
unfolding key_order
key_order_total = then_total (on_total end_of nat_cmp_total) nat_list_cmp_total

then_eq : (o : Ordering) (p q : Ordering) → (q ≡ Equal → o ≡ Equal) → q ≡ p → is_eq (ordering_then o p) ≡ is_eq q
then_eq Equal p q first same = ap is_eq (sym same)
then_eq Less p Less first same = refl
then_eq Less p Greater first same = refl
then_eq Less p Equal first same = absurd (cc (first refl))
then_eq Greater p Less first same = refl
then_eq Greater p Greater first same = refl
then_eq Greater p Equal first same = absurd (cc (first refl))

-- a key is found where its name is
pub key_order_is : (p q : List ℕ) → is_eq (key_order p q) ≡ bytes_eq p q
unfolding key_order
key_order_is p q =
    then_eq (nat_cmp (end_of p) (end_of q)) (slice_cmp nat_cmp p q) (slice_cmp nat_cmp p q) ends refl
    ∙ is_eq-slice_cmp p q
  where
    ends : slice_cmp nat_cmp p q ≡ Equal → nat_cmp (end_of p) (end_of q) ≡ Equal
    ends same =
        let names : p ≡ q = (bytes_eq-Decides p q).0 (sym (is_eq-slice_cmp p q) ∙ ap is_eq same) in
        ap (λ (r : List ℕ). nat_cmp (end_of p) (end_of r)) (sym names) ∙ tied_itself nat_cmp_total (end_of p)

pub key_order_ties : (p q : List ℕ) → pointwise nat_eq p q ≡ is_eq (key_order p q)
key_order_ties p q = texts_ties p q ∙ is_eq-slice_cmp p q ∙ sym (key_order_is p q)
