use Rattle.board_faults.proofs.Alike.{not_captured}
use Rattle.board_faults.proofs.laws.invisible_faults_are_not_captured.Goals as goal

pub returns : goal.returns
returns c = not_captured
