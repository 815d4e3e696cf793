use Rattle.std.proofs.Common.{◌∙◌}
use Rattle.play_diagnosis.proofs.WordLaws.{many_words}
use Rattle.play_diagnosis.proofs.lines.by_words.Goals as goal

pub returns-in-len7-up : goal.returns-in-len7-up
returns-in-len7-up c = c.from.ensures ∙ many_words c.args.words.now _ c.in-len7-up.len_at_least
