use Rattle.play_pipes.proofs.Ends.{found_first}
use Rattle.play_pipes.proofs.laws.what_is_found_first_is_what_stops.Goals as goal

pub returns : goal.returns
returns c = found_first
