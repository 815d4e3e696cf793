use Rattle.worked_examples.proofs.WordsCompute.{lex_rows}
use Rattle.worked_examples.proofs.settings.tokens_compute.Goals as goal

pub returns : goal.returns
returns c = lex_rows
