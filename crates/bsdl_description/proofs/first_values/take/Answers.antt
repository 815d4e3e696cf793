use Rattle.std.proofs.Common.{◌≡◌, Some, None, sym, ap, ◌∙◌}
use Rattle.std.specs.List.{position}
use Rattle.bsdl_values.specs.View.{value}
use Rattle.bsdl_description.specs.FirstValues.{is_attribute}
use Rattle.bsdl_description.specs.declared.first_values.FirstValue.{FirstValue}
use Rattle.bsdl_description.proofs.FirstLaws.{none_there, others_stay, taken}
use Rattle.bsdl_description.proofs.first_values.take.Goals as goal

pub returns-in_err-place-clause-value : goal.returns-in_err-place-clause-value
returns-in_err-place-clause-value c =
    let none : position (λ (f : FirstValue). is_attribute c.args.attribute f.attribute) c.args.firsts.now.items ≡ None =
    ap (position (λ (f : FirstValue). is_attribute c.args.attribute f.attribute)) (sym c.deref.ensures.value) ∙ sym c.in_err-place.ensures.place in
    rw c.from_residual.ensures (sym (none_there c.args.firsts.now.items c.args.attribute none))

pub returns-clause-value : goal.returns-clause-value
returns-clause-value c =
    let found : position (λ (f : FirstValue). is_attribute c.args.attribute f.attribute) c.args.firsts.now.items ≡ Some c.in_ok-place.place =
    ap (position (λ (f : FirstValue). is_attribute c.args.attribute f.attribute)) (sym c.deref.ensures.value) ∙ sym c.in_ok-place.ensures.place in
    sym (taken c.args.firsts.now.items c.in_ok-place.place c.remove.result c.args.attribute found ∙ ap (λ (f : FirstValue). Some (value f.value)) (sym c.remove.ensures.value))

pub returns-clause-others : goal.returns-clause-others
returns-clause-others c = λ a apart.
    let found : position (λ (f : FirstValue). is_attribute c.args.attribute f.attribute) c.args.firsts.now.items ≡ Some c.in_ok-place.place =
    ap (position (λ (f : FirstValue). is_attribute c.args.attribute f.attribute)) (sym c.deref.ensures.value) ∙ sym c.in_ok-place.ensures.place in
    rw c.remove.ensures.items (others_stay c.args.firsts.now.items c.in_ok-place.place c.remove.result a c.args.attribute found apart)
