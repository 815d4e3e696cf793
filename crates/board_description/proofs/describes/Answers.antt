use Rattle.board_description.proofs.RowsCompute.{described_rows}
use Rattle.board_description.proofs.describes.Goals as goal

pub returns : goal.returns
returns c = described_rows
