use Rattle.board_reasons.proofs.Places.{tells_the_bit}
use Rattle.board_reasons.proofs.origins.laws.reasons_tell_the_bit_that_differed.Goals as goal

pub returns : goal.returns
returns c = tells_the_bit
