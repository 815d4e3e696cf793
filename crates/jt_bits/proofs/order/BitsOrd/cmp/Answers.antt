use Rattle.std.proofs.Common.{◌≡◌, length, refl, sym, ap, ap₂, ◌∙◌}
use Rattle.std.specs.Cmp.Lexicographic.{slice_cmp}
use Rattle.std.specs.Ordering.{bool_cmp, nat_cmp, ordering_then}
use Rattle.std.specs.declared.cmp.Ordering.{Ordering}
use Rattle.std.specs.declared.cmp.Ordering.TheVariants.{Less, Equal, Greater}
use Rattle.jt_bits.specs.Order.{bits_order}
use Rattle.jt_bits.proofs.order.BitsOrd.cmp.Goals as goal

pub returns-in-Equal : goal.returns-in-Equal
unfolding bits_order
returns-in-Equal c =
    let p = c.args.self.now in
    let q = c.args.other.now in
    let lengths : Equal ≡ nat_cmp (length p) (length q) = sym c.in-Equal.is ∙ c.cmp.ensures ∙ ap₂ nat_cmp c.len.ensures c.len-2.ensures in
    c.by_words.ensures ∙ ap (λ o. ordering_then o (slice_cmp bool_cmp p q)) lengths

first : (o p : Ordering) → (o ≡ Equal → ⊥) → o ≡ ordering_then o p
first Less p apart = refl
first Equal p apart = absurd (apart refl)
first Greater p apart = refl

pub returns-in_default : goal.returns-in_default
unfolding bits_order
returns-in_default c =
    let p = c.args.self.now in
    let q = c.args.other.now in
    first c.cmp.result (slice_cmp bool_cmp p q) c.in_default.not-Equal
    ∙ ap (λ o. ordering_then o (slice_cmp bool_cmp p q)) (c.cmp.ensures ∙ ap₂ nat_cmp c.len.ensures c.len-2.ensures)
