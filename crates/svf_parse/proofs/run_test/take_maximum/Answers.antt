use Rattle.std.proofs.Common.{◌∷◌, List, Option, sym, ap, ◌∙◌}
use Rattle.svf_words.specs.Words.{Word, with_word}
use Rattle.svf_parse.specs.Ahead.{groups_ahead, words_ahead}
use Rattle.svf_parse.specs.RunTests.{take_maximum}
use Rattle.svf_parse.proofs.AheadLaws.{no_maximum}
use Rattle.svf_parse.proofs.run_test.take_maximum.Goals as goal

pub returns-in-Some-default-clause-behind : goal.returns-in-Some-default-clause-behind
returns-in-Some-default-clause-behind c =
    let behind = c.take_time.ensures.behind in
    (c.in-Two.keyword.now ∷ behind.0, ap groups_ahead c.in-Two.is ∙ ap (with_word c.in-Two.keyword.now) (sym c.look_behind.ensures.groups ∙ behind.1))

pub returns-in-One-clause-value : goal.returns-in-One-clause-value
returns-in-One-clause-value c =
    sym (ap (λ a. (take_maximum (words_ahead a)).0) c.in-One.is ∙ ap (λ (p : Option Word × List Word). p.0) (no_maximum c.in-One.field-0.now))

pub returns-in-One-clause-rest : goal.returns-in-One-clause-rest
returns-in-One-clause-rest c =
    ap words_ahead c.in-One.is ∙ sym (ap (λ a. (take_maximum (words_ahead a)).1) c.in-One.is ∙ ap (λ (p : Option Word × List Word). p.1) (no_maximum c.in-One.field-0.now))
