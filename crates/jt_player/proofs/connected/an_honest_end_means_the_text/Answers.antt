use Rattle.jt_player.proofs.ConnectionLaws.{honest_finds, honest_means}
use Rattle.jt_player.proofs.connected.an_honest_end_means_the_text.Goals as goal

pub returns-clause-stops : goal.returns-clause-stops
returns-clause-stops c = honest_means

pub returns-clause-plays_on : goal.returns-clause-plays_on
returns-clause-plays_on c = honest_finds
