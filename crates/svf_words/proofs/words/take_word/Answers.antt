use Rattle.svf_lex.specs.Left.{left}
use Rattle.svf_words.proofs.WordTaken.{taken, word_taken, none_left}
use Rattle.svf_words.proofs.words.take_word.Goals as goal

pub returns-in-Some-clause-word : goal.returns-in-Some-clause-word
returns-in-Some-clause-word c =
    let before = c.args.lexer.now in
    let behind = c.next_of_statement.new.self in
    let token = c.in-Some.token in
    word_taken before behind token.text.now (taken (left before) (left behind) token c.in-Some.ensures.0 c.in-Some.ensures.1)

pub returns-in-None-clause-word : goal.returns-in-None-clause-word
returns-in-None-clause-word c = none_left c.args.lexer.now c.in-None.ensures.1

pub returns-in-Some-clause-after : goal.returns-in-Some-clause-after
returns-in-Some-clause-after c = taken (left c.args.lexer.now) (left c.next_of_statement.new.self) c.in-Some.token c.in-Some.ensures.0 c.in-Some.ensures.1
