use Rattle.board_plan.proofs.LeftOutLaws.{left_out_means_bypass as means_bypass}
use Rattle.board_plan.proofs.instructions.left_out_means_bypass.Goals as goal

pub returns : goal.returns
returns c = means_bypass
