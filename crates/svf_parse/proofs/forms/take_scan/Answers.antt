use Rattle.svf_lex.specs.Left.{left}
use Rattle.svf_parse.proofs.NextWords.{behind_none, behind_word, behind_both}
use Rattle.svf_parse.proofs.forms.take_scan.Goals as goal

pub returns-then-not-is_number-clause-behind : goal.returns-then-not-is_number-clause-behind
returns-then-not-is_number-clause-behind c = behind_word (left c.args.words.now) (left c.args.words.now) (left c.take_word.new.lexer) c.in-Some.len.now c.in-Some.ensures.after (behind_none (left c.args.words.now))

pub returns-in_err-fields-clause-behind : goal.returns-in_err-fields-clause-behind
returns-in_err-fields-clause-behind c =
    behind_both (left c.args.words.now) (left c.take_word.new.lexer) (left c.take_fields.new.words) (behind_word (left c.args.words.now) (left c.args.words.now) (left c.take_word.new.lexer) c.in-Some.len.now c.in-Some.ensures.after (behind_none (left c.args.words.now))) c.take_fields.ensures.behind

pub returns-in-Some-2-clause-behind : goal.returns-in-Some-2-clause-behind
returns-in-Some-2-clause-behind c =
    behind_both (left c.args.words.now) (left c.take_word.new.lexer) (left c.take_fields.new.words) (behind_word (left c.args.words.now) (left c.args.words.now) (left c.take_word.new.lexer) c.in-Some.len.now c.in-Some.ensures.after (behind_none (left c.args.words.now))) c.take_fields.ensures.behind

pub returns-in-None-clause-behind : goal.returns-in-None-clause-behind
returns-in-None-clause-behind c =
    behind_both (left c.args.words.now) (left c.take_word.new.lexer) (left c.take_fields.new.words) (behind_word (left c.args.words.now) (left c.args.words.now) (left c.take_word.new.lexer) c.in-Some.len.now c.in-Some.ensures.after (behind_none (left c.args.words.now))) c.take_fields.ensures.behind
