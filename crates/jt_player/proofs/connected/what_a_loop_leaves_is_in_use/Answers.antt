use Rattle.jt_player.proofs.ConnectionLaws.{served_in_use}
use Rattle.jt_player.proofs.connected.what_a_loop_leaves_is_in_use.Goals as goal

pub returns : goal.returns
returns g c = λ x x' y y' kind program start board ending met l. served_in_use l.read start board met l.board_is
