use Rattle.std.proofs.Common.{Bool, true, cond, ap, ◌∙◌}
use Rattle.std.specs.BTreeSet.{contains_by}
use Rattle.name_keys.specs.Keys.{key_order}
use Rattle.name_keys.specs.OrderLaws.{key_order_is}
use Rattle.bsdl_text.specs.Words.{upper}
use Rattle.bsdl_opcodes.proofs.NameSetLaws.{put_name}
use Rattle.bsdl_opcodes.proofs.own.add_name.Goals as goal

pub returns : goal.returns
returns c = λ q.
    let key = c.new-key.result in
    let before = contains_by (key_order q) c.args.names.now in
    c.in_ok-insert.ensures.updates.0 q ∙ ap (λ (b : Bool). cond b true before) (key_order_is key q)
    ∙ put_name key (upper c.args.name.text.now) q before c.new-key.ensures
