use Rattle.std.proofs.Common.{vec_len}
use Rattle.board_loops.proofs.net_loops.components.Walk.leave.Given as goal

abbrev pub decreases-component : goal.decreases-component
decreases-component l = vec_len l.self.unclosed
