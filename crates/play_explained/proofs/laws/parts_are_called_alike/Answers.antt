use Rattle.play_explained.proofs.Explanations.{called_alike}
use Rattle.play_explained.proofs.laws.parts_are_called_alike.Goals as goal

pub returns : goal.returns
returns c = called_alike
