use Rattle.play_explained.proofs.RowsCompute.{ended_rows}
use Rattle.play_explained.proofs.laws.ended_lines_compute.Goals as goal

pub returns : goal.returns
returns c = ended_rows
