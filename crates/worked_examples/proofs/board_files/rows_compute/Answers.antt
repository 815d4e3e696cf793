use Rattle.worked_examples.proofs.BoardFilesCompute.{board_rows}
use Rattle.worked_examples.proofs.board_files.rows_compute.Goals as goal

pub returns : goal.returns
returns c = board_rows
