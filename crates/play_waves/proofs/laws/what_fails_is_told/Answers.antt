use Rattle.play_waves.proofs.FailLaws.{what_fails}
use Rattle.play_waves.proofs.laws.what_fails_is_told.Goals as goal

pub returns : goal.returns
returns c = what_fails
