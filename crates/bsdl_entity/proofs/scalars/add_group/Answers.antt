use Rattle.std.proofs.Common.{◌≡◌, ◌<◌, ap, sym, ◌∙◌, take, length, get_or, List, arith}
use Rattle.std.specs.Option.{option_or}
use Rattle.std.specs.BTreeMap.{get_by_text}
use Rattle.std.proofs.lemmas.List.{take_all}
use Rattle.bsdl_entity.specs.Scalars.{scalar_at}
use Rattle.bsdl_text.specs.Words.{upper}
use Rattle.bsdl_text.specs.declared.names.Word.{Word}
use Rattle.bsdl_entity.proofs.ScalarLaws.{scalar_names, names_more, names_all, one_after, turned}
use Rattle.bsdl_entity.proofs.scalars.add_group.Goals as goal

pub loop-name-preserved : goal.loop-name-preserved
loop-name-preserved c =
    let within : c.loop-name.name-index < length c.args.group.now.names.items = omega (arith, c.loop-name-test.true, ap length c.deref-name-items.ensures.value) in
    let item : get_or c.args.group.now.names.items c.loop-name.name-index c.name-item.result ≡ c.name-item.result = ap (λ (ws : List Word). get_or ws c.loop-name.name-index c.name-item.result) (sym c.deref-name-items.ensures.value) ∙ sym c.name-item.is in
    λ q. one_after _ _ _ _ _ _ (c.in_ok-add_name.ensures q) (c.loop-name.invariant q) (names_more c.args.group.now.names.items c.loop-name.name-index c.name-item.result c.is_none-is_scalar.result q within ∙ ap (λ (w : Word). option_or (scalar_names (take c.loop-name.name-index c.args.group.now.names.items) c.is_none-is_scalar.result q) (scalar_at (upper w.text.now) c.is_none-is_scalar.result q)) item)

pub returns : goal.returns
returns c = λ q.
    c.loop-name.invariant q
    ∙ ap (λ ws. option_or (get_by_text c.args.scalars.now q) (scalar_names ws c.is_none-is_scalar.result q)) (take_all c.loop-name.name-index c.args.group.now.names.items (omega (arith, c.loop-name-test.false, ap length c.deref-name-items.ensures.value)))
    ∙ ap (λ b. option_or (get_by_text c.args.scalars.now q) (scalar_names c.args.group.now.names.items b q)) (turned c.is_none-is_scalar.result c.args.group.now.range c.is_none-is_scalar.ensures)
    ∙ ap (option_or (get_by_text c.args.scalars.now q)) (names_all c.args.group.now q)
