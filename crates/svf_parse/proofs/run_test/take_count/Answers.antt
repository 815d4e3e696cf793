use Rattle.std.proofs.Common.{[], ◌∷◌, sym, ap, ◌∙◌}
use Rattle.svf_words.specs.Words.{Groups, with_word}
use Rattle.svf_parse.specs.Ahead.{groups_ahead}
use Rattle.svf_parse.proofs.run_test.take_count.Goals as goal

pub returns-in-Some-clause-behind : goal.returns-in-Some-clause-behind
returns-in-Some-clause-behind c = (
  c.in-Two.number.now ∷ c.in-Two.unit.now ∷ [],
  ap groups_ahead c.in-Two.is ∙ ap (λ (g : Groups). with_word c.in-Two.number.now (with_word c.in-Two.unit.now g)) (sym c.look.ensures.groups),
)
