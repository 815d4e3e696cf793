use Rattle.std.proofs.Common.{◌≡◌, length, sym, ap, ◌∙◌, arith}
use Rattle.std.proofs.lemmas.List.{with_items_is}
use Rattle.board_description.proofs.BlockLaws.{block_more}
use Rattle.board_description.proofs.blocks.Block.add.Goals as goal

pub returns : goal.returns
returns c =
    let old = c.self.inside.columns in
    let new = c.put_pattern.new.columns in
    let kept : length new ≡ length old.items = c.put_pattern.auto.columns ∙ ap length c.deref_mut.ensures.value in
    block_more c.self.inside.places.items c.push.new.self.items old.items c.deref_mut.result.now new _ c.args.place c.len-count.result c.args.pattern.now c.args.self.now
    c.in_ok-push.ensures.items c.deref_mut.ensures.value (with_items_is old new (kept ∙ sym old.ok.0)) c.self.view_is
    (omega (arith, c.len-count.ensures, c.self.inside.places.ok.0)) (omega (arith, c.if-count-ge-ROOM.false)) c.put_pattern.ensures.here c.put_pattern.ensures.others
