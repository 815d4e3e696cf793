use Rattle.std.proofs.Common.{sym, ◌∙◌}
use Rattle.svf_words.proofs.KeywordLaws.{same_state, state_spelt}
use Rattle.svf_words.proofs.keywords.state_of.Goals as goal

pub returns-in-Some : goal.returns-in-Some
returns-in-Some c = state_spelt c.args.word.now c.in-Some.state (sym c.first_spelt.ensures ∙ c.in-Some.is)

pub returns-in-None : goal.returns-in-None
returns-in-None c = same_state c.args.word.now c.from_word.result c.from_word.ensures.found c.from_word.ensures.only
