use Rattle.play_model.proofs.Window.{within}
use Rattle.play_model.proofs.streams.owed_within_the_window.Goals as goal

pub returns : goal.returns
returns c = within
