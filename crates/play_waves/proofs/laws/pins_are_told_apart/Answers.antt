use Rattle.play_waves.proofs.NameLaws.{told_apart}
use Rattle.play_waves.proofs.laws.pins_are_told_apart.Goals as goal

pub returns : goal.returns
returns c = told_apart
