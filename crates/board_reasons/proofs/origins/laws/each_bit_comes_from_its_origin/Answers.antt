use Rattle.board_reasons.proofs.Verdicts.{comes}
use Rattle.board_reasons.proofs.origins.laws.each_bit_comes_from_its_origin.Goals as goal

pub returns : goal.returns
returns c = comes
