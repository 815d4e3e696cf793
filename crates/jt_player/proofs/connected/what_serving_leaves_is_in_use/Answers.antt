use Rattle.jt_player.proofs.ConnectionLaws.{served_in_use}
use Rattle.jt_player.proofs.connected.what_serving_leaves_is_in_use.Goals as goal

pub returns : goal.returns
returns g c = λ w w' r r' b b' most served met over. served_in_use over.got b b' met over.board
