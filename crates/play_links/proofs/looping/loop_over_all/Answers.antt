use Rattle.play_links.proofs.looping.loop_over_all.Goals as goal

pub returns : goal.returns
returns g c = rw c.into_failures.ensures c.loop_over_lent-ending.ensures.played
