use Rattle.play_explained.proofs.Explanations.{each_is_explained, nothing_else}
use Rattle.play_explained.proofs.laws.every_failure_is_explained.Goals as goal

pub returns-clause-failures : goal.returns-clause-failures
returns-clause-failures c = each_is_explained

pub returns-clause-lines : goal.returns-clause-lines
returns-clause-lines c = nothing_else
