use Rattle.worked_examples.proofs.BoardFilesCompute.{follow_rows}
use Rattle.worked_examples.proofs.board_files.follow_rows_compute.Goals as goal

pub returns : goal.returns
returns c = follow_rows
