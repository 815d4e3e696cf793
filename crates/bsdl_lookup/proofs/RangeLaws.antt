-- The ranges of groups, found by their places.
use Rattle.std.proofs.Common.{◌≡◌, ℕ, List, Option, Some, None, map, option_map, option_and_then, slice_get, refl, sym, ap, ◌∙◌}
use Rattle.std.proofs.lemmas.Option.{slice_get-map}
use Rattle.bsdl_entity.specs.PortsView.{range}
use Rattle.bsdl_entity.specs.declared.ports.Group.{Group}
use Rattle.bsdl_entity.specs.declared.ports.Range as declared_range
use Rattle.bsdl_lookup.specs.Keyed.{range_at}

flat : {A B : Type 0} (f : A → Option B) (o : Option A) → option_and_then f o ≡ option_and_then (λ x. x) (option_map f o)
flat f None = refl
flat f (Some x) = refl

-- the range at the place of a group is the group's
pub ranges_there : (ranges : List (Option declared_range.Range)) (groups : List Group) (place : ℕ) (g : Group)
    → map (option_map range) ranges ≡ map (λ (h : Group). option_map range h.range) groups → slice_get groups place ≡ Some g
    → range_at ranges place ≡ option_map range g.range
ranges_there ranges groups place g same at =
    flat (option_map range) (slice_get ranges place)
    ∙ ap (option_and_then (λ x. x))
    (sym (slice_get-map (option_map range) ranges place) ∙ ap (λ rs. slice_get rs place) same ∙ slice_get-map (λ (h : Group). option_map range h.range) groups place
    ∙ ap (option_map (λ (h : Group). option_map range h.range)) at)
