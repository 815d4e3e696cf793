use Rattle.jt_board.proofs.IdlePieces.{idle_before}
use Rattle.jt_board.proofs.board.idle.idle_run.Goals as goal

pub level_behind-requires : goal.level_behind-requires
level_behind-requires c = idle_before c.args.bytes.now c.idle_len-count.result c.idle_len-count.ensures.count

pub returns-clause-idle : goal.returns-clause-idle
returns-clause-idle c = idle_before c.args.bytes.now c.idle_len-count.result c.idle_len-count.ensures.count
