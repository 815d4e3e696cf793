use Rattle.svf_lex.specs.Left.{left}
use Rattle.svf_parse.proofs.NextWords.{behind_none, behind_word, behind_same}
use Rattle.svf_parse.proofs.forms.one_trst.Goals as goal

pub returns-in-None-clause-behind : goal.returns-in-None-clause-behind
returns-in-None-clause-behind c =
    behind_same (left c.args.words.now) (left c.take_word.new.lexer) (left c.take_word-2.new.lexer) c.in-None.ensures.after
    (behind_word (left c.args.words.now) (left c.args.words.now) (left c.take_word.new.lexer) c.in_ok-word.word.now c.in_ok-word.ensures.after (behind_none (left c.args.words.now)))

pub returns-in-Some-clause-behind : goal.returns-in-Some-clause-behind
returns-in-Some-clause-behind c =
    behind_word (left c.args.words.now) (left c.take_word.new.lexer) (left c.take_word-2.new.lexer) c.in-Some.field-0.now c.in-Some.ensures.after
    (behind_word (left c.args.words.now) (left c.args.words.now) (left c.take_word.new.lexer) c.in_ok-word.word.now c.in_ok-word.ensures.after (behind_none (left c.args.words.now)))
