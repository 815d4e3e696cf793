use Rattle.play_pipes.proofs.Inside.{inside}
use Rattle.play_pipes.proofs.laws.what_is_joined_stays_inside_the_full_play.Goals as goal

pub returns : goal.returns
returns c = inside
