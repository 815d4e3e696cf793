use Rattle.std.proofs.Common.{sym, ◌∙◌}
use Rattle.svf_words.proofs.KeywordLaws.{command_spelt}
use Rattle.svf_words.proofs.keywords.command_of.Goals as goal

pub returns-in-Some : goal.returns-in-Some
returns-in-Some c = command_spelt c.args.word.now c.in-Some.command (sym c.first_spelt.ensures ∙ c.in-Some.is)
