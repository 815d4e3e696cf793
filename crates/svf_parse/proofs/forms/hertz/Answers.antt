use Rattle.svf_lex.specs.Left.{left}
use Rattle.svf_parse.proofs.NextWords.{behind_none, behind_word, behind_same, behind_take}
use Rattle.svf_parse.proofs.forms.hertz.Goals as goal

pub returns-in_err-unit-clause-behind : goal.returns-in_err-unit-clause-behind
returns-in_err-unit-clause-behind c =
    behind_same (left c.args.words.now) (left c.take_word.new.lexer) (left c.take_word-2.new.lexer) c.in_err-unit.ensures.after
    (behind_word (left c.args.words.now) (left c.args.words.now) (left c.take_word.new.lexer) c.in-Some.number.now c.in-Some.ensures.after (behind_none (left c.args.words.now)))

pub returns-then-reads-clause-behind : goal.returns-then-reads-clause-behind
returns-then-reads-clause-behind c =
    behind_take (left c.args.words.now) (left c.take_word-2.new.lexer) (left c.take_word-3.new.lexer) c.take_word-3.result c.take_word-3.ensures.after
    (behind_word (left c.args.words.now) (left c.take_word.new.lexer) (left c.take_word-2.new.lexer) c.in_ok-unit.unit.now c.in_ok-unit.ensures.after
    (behind_word (left c.args.words.now) (left c.args.words.now) (left c.take_word.new.lexer) c.in-Some.number.now c.in-Some.ensures.after (behind_none (left c.args.words.now))))

pub returns-else-is_none-clause-behind : goal.returns-else-is_none-clause-behind
returns-else-is_none-clause-behind c =
    behind_take (left c.args.words.now) (left c.take_word-2.new.lexer) (left c.take_word-3.new.lexer) c.take_word-3.result c.take_word-3.ensures.after
    (behind_word (left c.args.words.now) (left c.take_word.new.lexer) (left c.take_word-2.new.lexer) c.in_ok-unit.unit.now c.in_ok-unit.ensures.after
    (behind_word (left c.args.words.now) (left c.args.words.now) (left c.take_word.new.lexer) c.in-Some.number.now c.in-Some.ensures.after (behind_none (left c.args.words.now))))
