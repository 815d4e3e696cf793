use Rattle.std.proofs.Common.{Bool, cond, ap, ◌∙◌}
use Rattle.std.specs.Prelude.{Some}
use Rattle.std.specs.BTreeMap.{get}
use Rattle.name_keys.specs.Keys.{key_order}
use Rattle.name_keys.specs.OrderLaws.{key_order_is}
use Rattle.bsdl_text.specs.Words.{upper}
use Rattle.bsdl_rules.specs.Positions.{begins_before}
use Rattle.bsdl_rules.proofs.PositionLaws.{first_kept}
use Rattle.bsdl_rules.proofs.naming.add_position.Goals as goal

pub returns : goal.returns
returns c = λ q s.
    let key = c.new-key.result in
    let first = c.first_of-first.result in
    ap (λ o. begins_before o s) (c.in_ok-insert.ensures.updates.0 q ∙ ap (λ (b : Bool). cond b (Some first) (get key_order c.args.positions.now q)) (key_order_is key q))
    ∙ first_kept (get key_order c.args.positions.now) key (upper c.args.found.name.text.now) q first c.args.found.position s c.new-key.ensures (c.first_of-first.ensures s)
