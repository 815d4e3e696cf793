use Rattle.std.proofs.Common.{sym}
use Rattle.svf_lex.specs.Left.{left}
use Rattle.svf_words.specs.Words.{words_left}
use Rattle.svf_parse.proofs.NextWords.{behind_none, behind_word, behind_same, behind_both}
use Rattle.svf_parse.proofs.FieldLaws.{opened, not_opened, no_bracket}
use Rattle.svf_parse.proofs.fields.bracket.Goals as goal
use Rattle.svf_parse.proofs.fields.bracket.Goals.{in_default-via-in-Some+else-is_open, in_default-via-in_default}

pub returns-in-Some-clause-found : goal.returns-in-Some-clause-found
returns-in-Some-clause-found c =
    rw (sym (opened c.in-Some.word.now (words_left c.take_word.new.lexer) (words_left c.args.words.now) c.in-Some.ensures.word (sym c.if-is_open.ensures))) c.runs.ensures.found

pub returns-in_default-clause-found : goal.returns-in_default-clause-found
returns-in_default-clause-found c =
    elim c.in_default.branch [
      | in_default-via-in-Some+else-is_open w ↦ not_opened w.in-Some.word.now (words_left c.take_word.new.lexer) (words_left c.args.words.now) w.in-Some.ensures.word (sym w.if-is_open.ensures)
      | in_default-via-in_default w ↦ no_bracket (words_left c.args.words.now) w.in_default.ensures.word
    ]

pub returns-in-Some-clause-behind : goal.returns-in-Some-clause-behind
returns-in-Some-clause-behind c =
    behind_both (left c.args.words.now) (left c.take_word.new.lexer) (left c.runs.new.words) (behind_word (left c.args.words.now) (left c.args.words.now) (left c.take_word.new.lexer) c.in-Some.word.now c.in-Some.ensures.after (behind_none (left c.args.words.now))) c.runs.ensures.behind

pub returns-in_default-clause-behind : goal.returns-in_default-clause-behind
returns-in_default-clause-behind c =
    elim c.in_default.branch [
      | in_default-via-in-Some+else-is_open w ↦ behind_word (left c.args.words.now) (left c.args.words.now) (left c.take_word.new.lexer) w.in-Some.word.now w.in-Some.ensures.after (behind_none (left c.args.words.now))
      | in_default-via-in_default w ↦ behind_same (left c.args.words.now) (left c.args.words.now) (left c.take_word.new.lexer) w.in_default.ensures.after (behind_none (left c.args.words.now))
    ]
