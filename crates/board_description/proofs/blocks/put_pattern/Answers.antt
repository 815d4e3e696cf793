use Rattle.std.proofs.Common.{◌∙◌, arith}
use Rattle.board_description.proofs.BlockLaws.{pattern_more, pattern_set}
use Rattle.board_description.proofs.blocks.put_pattern.Goals as goal

pub loop-i-preserved : goal.loop-i-preserved
loop-i-preserved c =
    let columns = c.loop-i.columns in
    let i = c.loop-i.i in (
      pattern_more columns c.args.pattern.now i c.args.k c.with.result _ (omega arith) (omega arith) c.with.ensures.here c.loop-i.invariant.0,
      λ j h apart. pattern_set columns i j c.with.result _ (c.with.ensures.others j h apart) ∙ c.loop-i.invariant.1 j h apart,
    )
