use Rattle.board_faults.proofs.OnePlay.{one_run}
use Rattle.board_faults.proofs.laws.one_run_serves_other_nets.Goals as goal

pub returns : goal.returns
returns c = one_run
