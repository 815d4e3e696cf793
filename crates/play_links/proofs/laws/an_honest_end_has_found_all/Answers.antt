use Rattle.play_links.proofs.HonestLink.{has_found_all}
use Rattle.play_links.proofs.laws.an_honest_end_has_found_all.Goals as goal

pub returns : goal.returns
returns c = has_found_all
