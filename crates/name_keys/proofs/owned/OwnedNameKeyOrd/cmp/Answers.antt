use Rattle.std.proofs.Common.{◌≡◌, refl, sym, ap, ◌∙◌}
use Rattle.std.specs.Prelude.{string_bytes}
use Rattle.std.specs.Cmp.Lexicographic.{slice_cmp}
use Rattle.std.specs.Ordering.{nat_cmp, ordering_then}
use Rattle.std.specs.declared.cmp.Ordering.{Ordering}
use Rattle.std.specs.declared.cmp.Ordering.TheVariants.{Less, Equal, Greater}
use Rattle.name_keys.proofs.CompareLaws.{ordered}
use Rattle.name_keys.proofs.owned.OwnedNameKeyOrd.cmp.Goals as goal

pub returns-in-Equal : goal.returns-in-Equal
returns-in-Equal c =
    let p = string_bytes c.self.inside.name in
    let q = string_bytes c.other.inside.name in
    ordered c.args.self.now c.args.other.now p q c.self.inside.end c.other.inside.end c.cmp.result c.cmp-in-Equal.result c.self.view_is c.other.view_is c.self.invariant c.other.invariant c.cmp.ensures
    (c.cmp-in-Equal.ensures ∙ ap (λ o. ordering_then o (slice_cmp nat_cmp p q)) (sym c.in-Equal.is))

first : (o p : Ordering) → (o ≡ Equal → ⊥) → o ≡ ordering_then o p
first Less p apart = refl
first Equal p apart = absurd (apart refl)
first Greater p apart = refl

pub returns-in_default : goal.returns-in_default
returns-in_default c =
    let p = string_bytes c.self.inside.name in
    let q = string_bytes c.other.inside.name in
    ordered c.args.self.now c.args.other.now p q c.self.inside.end c.other.inside.end c.cmp.result c.cmp.result c.self.view_is c.other.view_is c.self.invariant c.other.invariant c.cmp.ensures
    (first c.cmp.result (slice_cmp nat_cmp p q) c.in_default.not-Equal)
