use Rattle.play_links.proofs.playing.play_over_all.Goals as goal

pub returns : goal.returns
returns g c = rw c.into_failures.ensures c.play_over_lent-ending.ensures.played
