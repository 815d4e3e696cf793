use Rattle.worked_examples.proofs.WordsCompute.{word_rows}
use Rattle.worked_examples.proofs.settings.words_compute.Goals as goal

pub returns : goal.returns
returns c = word_rows
