use Rattle.std.proofs.Common.{sym}
use Rattle.jt_board.proofs.IdlePieces.{moved_last}
use Rattle.jt_board.proofs.board.idle.level_behind.Goals as goal

pub returns-in-Some : goal.returns-in-Some
returns-in-Some c =
    moved_last c.args.idle.now c.args.was c.in-Some.last.now c.requires (sym c.in-Some.ensures.value) c.is_high.result c.is_high.ensures
