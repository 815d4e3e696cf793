use Rattle.std.proofs.Common.{[], ◌∷◌, sym, ap, ◌∙◌}
use Rattle.svf_words.specs.Words.{with_word}
use Rattle.svf_parse.specs.Ahead.{groups_ahead}
use Rattle.svf_parse.proofs.run_test.take_state.Goals as goal

pub returns-in-Some-clause-behind : goal.returns-in-Some-clause-behind
returns-in-Some-clause-behind c = (c.in-Two.word.now ∷ [], ap groups_ahead c.in-Two.is ∙ ap (with_word c.in-Two.word.now) (sym c.look_behind.ensures.groups))

pub returns-in-Some-state_of-clause-behind : goal.returns-in-Some-state_of-clause-behind
returns-in-Some-state_of-clause-behind c = (c.in-One.word.now ∷ [], ap groups_ahead c.in-One.is)
