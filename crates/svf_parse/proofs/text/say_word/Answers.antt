use Rattle.std.proofs.Common.{◌∷◌, sym}
use Rattle.svf_words.specs.Words.{words_left}
use Rattle.svf_parse.specs.Reading.{command_says, statement_says}
use Rattle.svf_parse.proofs.Grouping.{adds_so, is_of, is_unknown}
use Rattle.svf_parse.proofs.text.say_word.Goals as goal

pub returns-in-Some-clause-adds : goal.returns-in-Some-clause-adds
returns-in-Some-clause-adds c =
    let w = c.args.word.now in
    let ws = words_left c.args.words.now in
    adds_so c.say.result c.args.all.now.items c.say.new.all.items (command_says c.in-Some.command ws) (statement_says (w ∷ ws)) (is_of w ws c.in-Some.command (sym c.in-Some.ensures)) c.say.ensures.adds

pub returns-in-None-clause-adds : goal.returns-in-None-clause-adds
returns-in-None-clause-adds c = is_unknown c.args.word.now (words_left c.args.words.now) (sym c.in-None.ensures)
