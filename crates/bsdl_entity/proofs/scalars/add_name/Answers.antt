use Rattle.std.proofs.Common.{◌≡◌, false, ap, sym, ◌∙◌}
use Rattle.std.specs.Prelude.{is_some, string_bytes}
use Rattle.std.specs.BTreeMap.{get_by_text}
use Rattle.std.proofs.lemmas.Map.Text.{btree_map_updates_text}
use Rattle.bsdl_text.specs.Words.{upper}
use Rattle.bsdl_entity.proofs.ScalarLaws.{name_is_new}
use Rattle.bsdl_entity.proofs.scalars.add_name.Goals as goal

pub returns : goal.returns
returns c =
    let key = string_bytes c.in_ok-key.key in
    let new : is_some (get_by_text c.args.scalars.now key) ≡ false = ap (λ bs. is_some (get_by_text c.args.scalars.now bs)) (sym c.as_str.ensures.value) ∙ sym c.contains_key.ensures ∙ c.if-contains_key.false in
    λ q. btree_map_updates_text key c.args.scalars.now c.insert.new.self _ c.in_ok-insert.ensures.updates q
    ∙ name_is_new (get_by_text c.args.scalars.now) key (upper c.args.name.text.now) c.args.is_scalar q c.in_ok-key.ensures new
