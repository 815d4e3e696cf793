use Rattle.play_waves.proofs.FightLaws.{its_letter, who_fights}
use Rattle.play_waves.proofs.laws.who_fights_is_drawn.Goals as goal

pub returns-clause-letters : goal.returns-clause-letters
returns-clause-letters c = its_letter

pub returns-clause-fights : goal.returns-clause-fights
returns-clause-fights c = who_fights
