use Rattle.std.proofs.Common.{sym, ◌∙◌}
use Rattle.svf_words.proofs.KeywordLaws.{field_spelt}
use Rattle.svf_words.proofs.keywords.field_of.Goals as goal

pub returns-in-Some : goal.returns-in-Some
returns-in-Some c = field_spelt c.args.word.now c.in-Some.field (sym c.first_spelt.ensures ∙ c.in-Some.is)
