use Rattle.worked_examples.proofs.NumbersCompute.{number_rows}
use Rattle.worked_examples.proofs.settings.numbers_compute.Goals as goal

pub returns : goal.returns
returns c = number_rows
