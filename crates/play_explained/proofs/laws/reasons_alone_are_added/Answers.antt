use Rattle.play_explained.proofs.Explanations.{reasons_added}
use Rattle.play_explained.proofs.laws.reasons_alone_are_added.Goals as goal

pub returns : goal.returns
returns c = reasons_added
