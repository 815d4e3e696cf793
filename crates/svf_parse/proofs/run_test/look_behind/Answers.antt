use Rattle.std.proofs.Common.{sym, ap}
use Rattle.svf_words.specs.Words.{with_word}
use Rattle.svf_parse.proofs.run_test.look_behind.Goals as goal

pub returns-in-Some-clause-groups : goal.returns-in-Some-clause-groups
returns-in-Some-clause-groups c = ap (with_word c.args.word.now) (sym c.in-Some.ensures.after)
