use Rattle.worked_examples.proofs.WordsCompute.{statement_rows}
use Rattle.worked_examples.proofs.settings.statements_compute.Goals as goal

pub returns : goal.returns
returns c = statement_rows
