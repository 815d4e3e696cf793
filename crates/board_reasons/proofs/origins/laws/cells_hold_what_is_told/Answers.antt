use Rattle.board_reasons.proofs.CapturedCells.{cells_hold}
use Rattle.board_reasons.proofs.origins.laws.cells_hold_what_is_told.Goals as goal

pub returns : goal.returns
returns c = cells_hold c.the_bits_in_force_stay.ensures
