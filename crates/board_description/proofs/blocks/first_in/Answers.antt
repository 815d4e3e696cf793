use Rattle.std.proofs.Common.{◌+◌, drop, sym, ◌∙◌, arith}
use Rattle.board_description.specs.Blocks.{joined}
use Rattle.board_description.proofs.BlockLaws.{rest_of, taken_here, taken_later}
use Rattle.board_description.proofs.blocks.first_in.Goals as goal

pub returns-in-Some : goal.returns-in-Some
returns-in-Some c =
    let blocks = c.args.blocks.now in
    let i = c.loop-block.block-index in
    taken_here c.block-item.result (joined (drop (i + 1) blocks)) c.args.pattern.now c.in-Some.place c.in-Some.ensures
    ∙ rest_of blocks i c.block-item.result c.args.pattern.now (omega arith) c.block-item.is
    ∙ c.loop-block.invariant

pub loop-block-preserved : goal.loop-block-preserved
loop-block-preserved c =
    let blocks = c.args.blocks.now in
    let i = c.loop-block.block-index in
    sym (taken_later c.block-item.result (joined (drop (i + 1) blocks)) c.args.pattern.now c.in_default.ensures)
    ∙ rest_of blocks i c.block-item.result c.args.pattern.now (omega arith) c.block-item.is
    ∙ c.loop-block.invariant
