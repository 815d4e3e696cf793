use Rattle.board_reasons.proofs.RowsCompute.{reason_rows}
use Rattle.board_reasons.proofs.origins.laws.reasons_compute.Goals as goal

pub returns : goal.returns
returns c = reason_rows
