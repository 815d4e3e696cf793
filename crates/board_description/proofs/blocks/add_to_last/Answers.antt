use Rattle.std.proofs.Common.{◌-◌, length, arith}
use Rattle.board_description.proofs.BlockLaws.{to_last}
use Rattle.board_description.proofs.blocks.add_to_last.Goals as goal

pub returns : goal.returns
returns c =
    to_last _ c.args.blocks.now (length c.args.blocks.now - 1) c.index-blocks-count.result c.add.new.self (c.args.place, c.args.pattern.now) c.add.result
    (omega (arith, c.if-count-eq0.false)) c.add.ensures
