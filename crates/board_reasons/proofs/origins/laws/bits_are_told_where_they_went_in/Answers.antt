use Rattle.board_reasons.proofs.PartStarts.{tells_where}
use Rattle.board_reasons.proofs.origins.laws.bits_are_told_where_they_went_in.Goals as goal

pub returns : goal.returns
returns c = tells_where
