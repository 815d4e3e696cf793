use Rattle.std.proofs.Common.{◌≡◌, ◌+◌, ◌≤◌, List, ◌∷◌, Option, length, map, drop, sym, ap, subst, ◌∙◌, ℕ, arith, Result}
use Rattle.std.specs.Option.{option_or}
use Rattle.std.proofs.lemmas.List.{at_drop_all, drop_more}
use Rattle.bsdl_values.specs.View.{Says}
use Rattle.bsdl_values.specs.declared.values.Value as declared_value
use Rattle.bsdl_entity.specs.GivenView.{first_unsaid, given}
use Rattle.bsdl_entity.specs.declared.items.Given as declared_given
use Rattle.bsdl_description.specs.FirstValues.{value_given}
use Rattle.bsdl_description.specs.FirstView.{kept}
use Rattle.bsdl_description.specs.declared.first_values.FirstValue.{FirstValue}
use Rattle.bsdl_description.proofs.FirstLaws.{one_more, or_none}
use Rattle.bsdl_description.proofs.first_values.first_values.Goals as goal

pub loop-giving-preserved : goal.loop-giving-preserved
loop-giving-preserved c =
    let gs = c.args.given.now in
    let i = c.loop-giving.giving-index in
    let g = c.giving-item.result in
    let here : drop i gs ≡ g ∷ drop (i + 1) gs = drop_more gs i g c.loop-giving-test.true ∙ ap (λ (h : declared_given.Given). h ∷ drop (i + 1) gs) (sym c.giving-item.is) in
    let says = subst (λ (r : Result declared_value.Value ℕ). Says r g.value) c.in-Ok.is c.in_ok-value.ensures in (
      c.loop-giving.invariant.0 ∙ ap first_unsaid here ∙ ap (λ (u : Option ℕ). option_or u (first_unsaid (drop (i + 1) gs))) says.0,
      λ a. c.loop-giving.invariant.1 a
          ∙ ap (λ (l : List declared_given.Given). option_or (kept c.loop-giving.firsts.items a) (value_given a (map given l))) here
          ∙ one_more c.loop-giving.firsts.items (map given (drop (i + 1) gs)) (given g) c.in-Ok.value a says.1
          ∙ ap (λ (l : List FirstValue). option_or (kept l a) (value_given a (map given (drop (i + 1) gs)))) (sym c.in_ok-keep_first-in-Ok.ensures),
    )

pub returns : goal.returns
returns c =
    let gs = c.args.given.now in
    let i = c.loop-giving.giving-index in
    let over : length gs ≤ i = omega (arith, c.loop-giving-test.false) in (
      c.loop-giving.invariant.0 ∙ at_drop_all first_unsaid gs i over,
      λ a. sym (c.loop-giving.invariant.1 a ∙ at_drop_all (λ (l : List declared_given.Given). option_or (kept c.loop-giving.firsts.items a) (value_given a (map given l))) gs i over ∙ or_none (kept c.loop-giving.firsts.items a)),
    )
