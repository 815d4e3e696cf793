use Rattle.board_reasons.proofs.Instructions.{tells_instruction}
use Rattle.board_reasons.proofs.origins.laws.the_instruction_in_the_latch_is_told.Goals as goal

pub returns : goal.returns
returns c = tells_instruction
