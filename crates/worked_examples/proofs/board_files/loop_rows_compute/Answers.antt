use Rattle.worked_examples.proofs.BoardFilesCompute.{loop_rows}
use Rattle.worked_examples.proofs.board_files.loop_rows_compute.Goals as goal

pub returns : goal.returns
returns c = loop_rows
