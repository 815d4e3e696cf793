use Rattle.board_reasons.proofs.Verdicts.{verdict}
use Rattle.board_reasons.proofs.origins.laws.only_its_origin_mends_a_failure.Goals as goal

pub returns : goal.returns
returns c = verdict
