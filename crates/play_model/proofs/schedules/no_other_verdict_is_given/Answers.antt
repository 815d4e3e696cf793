use Rattle.play_model.proofs.SafetyLaws.{no_other_verdict}
use Rattle.play_model.proofs.schedules.no_other_verdict_is_given.Goals as goal

pub returns : goal.returns
returns c = no_other_verdict
