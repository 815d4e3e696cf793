use Rattle.play_model.proofs.HonestWindow.{honest_verdict}
use Rattle.play_model.proofs.streams.an_honest_verdict_for_any_window.Goals as goal

pub returns : goal.returns
returns c = honest_verdict
