use Rattle.board_description.specs.Blocks.{joined}
use Rattle.board_description.proofs.CoverLaws.{holds_next, x_added, x_stays}
use Rattle.board_description.proofs.opcodes.Opcodes.add.Goals as goal

pub returns-in_ok-add_to : goal.returns-in_ok-add_to
returns-in_ok-add_to c names patterns h =
    holds_next names patterns c.args.self.now _ c.args.name c.args.pattern c.has_x.result c.len-place.result h c.len-place.ensures c.has_x.ensures
    c.in_ok-push.ensures.items c.in_ok-push-2.ensures.pushed
    (x_added (joined c.args.self.now.with_x.items) (joined c.add_to.new.blocks.items) c.len-place.result c.args.pattern.now c.has_x.result c.if-has_x.true c.in_ok-add_to.ensures)

pub returns-else-has_x : goal.returns-else-has_x
returns-else-has_x c names patterns h =
    holds_next names patterns c.args.self.now _ c.args.name c.args.pattern c.has_x.result c.len-place.result h c.len-place.ensures c.has_x.ensures
    c.in_ok-push.ensures.items c.in_ok-push-2.ensures.pushed
    (x_stays c.args.self.now c.has_x.result c.len-place.result c.args.pattern.now c.if-has_x.false)
