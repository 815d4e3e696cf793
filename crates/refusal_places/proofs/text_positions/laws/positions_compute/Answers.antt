use Rattle.refusal_places.proofs.TextRowsCompute.{statement_rows, offset_rows}
use Rattle.refusal_places.proofs.text_positions.laws.positions_compute.Goals as goal

pub returns-clause-statements : goal.returns-clause-statements
returns-clause-statements c = statement_rows

pub returns-clause-offsets : goal.returns-clause-offsets
returns-clause-offsets c = offset_rows
