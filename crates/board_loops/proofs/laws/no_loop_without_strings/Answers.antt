use Rattle.board_loops.proofs.DependingLaws.{no_loop}
use Rattle.board_loops.proofs.laws.no_loop_without_strings.Goals as goal

pub returns : goal.returns
returns c = no_loop
