use Rattle.std.proofs.Common.{[], sym, ◌∙◌}
use Rattle.svf_lex.specs.Left.{left}
use Rattle.svf_words.specs.Words.{words_left}
use Rattle.svf_parse.specs.Fields.{cut_at_close, runs}
use Rattle.svf_parse.proofs.NextWords.{behind_none, behind_word, behind_same, behind_both}
use Rattle.svf_parse.proofs.FieldLaws.{with_digits-nil, next_run, ended_runs, broken_runs, unended_runs}
use Rattle.svf_parse.proofs.fields.runs.Goals as goal

pub returns-in_default-clause-found : goal.returns-in_default-clause-found
returns-in_default-clause-found c = unended_runs [] (words_left c.args.words.now) (runs (cut_at_close (words_left c.args.words.now))) c.in_default.ensures.word (with_digits-nil (runs (cut_at_close (words_left c.args.words.now))))

pub returns-then-is_close-clause-found : goal.returns-then-is_close-clause-found
returns-then-is_close-clause-found c =
    rw c.new.ensures.items
    (ended_runs [] c.in-Some.first.now (words_left c.take_word.new.lexer) (words_left c.args.words.now) (runs (cut_at_close (words_left c.args.words.now))) c.in-Some.ensures.word (sym c.if-is_close.ensures) (with_digits-nil (runs (cut_at_close (words_left c.args.words.now)))))

pub returns-then-is_open-clause-found : goal.returns-then-is_open-clause-found
returns-then-is_open-clause-found c =
    broken_runs [] c.in-Some.first.now (words_left c.take_word.new.lexer) (words_left c.args.words.now) (runs (cut_at_close (words_left c.args.words.now))) c.in-Some.ensures.word (sym c.if-is_close.ensures) (sym c.if-is_open.ensures) (with_digits-nil (runs (cut_at_close (words_left c.args.words.now))))

pub returns-then-is_close-2-clause-found : goal.returns-then-is_close-2-clause-found
returns-then-is_close-2-clause-found c =
    ended_runs c.in-Some.first.now c.in-Some-take_word.second.now (words_left c.take_word-2.new.lexer) (words_left c.take_word.new.lexer) (runs (cut_at_close (words_left c.args.words.now))) c.in-Some-take_word.ensures.word (sym c.if-is_close-2.ensures)
    (next_run [] c.in-Some.first.now (words_left c.take_word.new.lexer) (words_left c.args.words.now) (runs (cut_at_close (words_left c.args.words.now))) c.in-Some.ensures.word (sym c.if-is_close.ensures) (sym c.if-is_open.ensures) (with_digits-nil (runs (cut_at_close (words_left c.args.words.now)))))

pub returns-in_default-take_word-clause-found : goal.returns-in_default-take_word-clause-found
returns-in_default-take_word-clause-found c =
    unended_runs c.in-Some.first.now (words_left c.take_word.new.lexer) (runs (cut_at_close (words_left c.args.words.now))) c.in_default-take_word.ensures.word
    (next_run [] c.in-Some.first.now (words_left c.take_word.new.lexer) (words_left c.args.words.now) (runs (cut_at_close (words_left c.args.words.now))) c.in-Some.ensures.word (sym c.if-is_close.ensures) (sym c.if-is_open.ensures) (with_digits-nil (runs (cut_at_close (words_left c.args.words.now)))))

pub returns-then-is_open-2-clause-found : goal.returns-then-is_open-2-clause-found
returns-then-is_open-2-clause-found c =
    broken_runs c.in-Some.first.now c.in-Some-take_word.second.now (words_left c.take_word-2.new.lexer) (words_left c.take_word.new.lexer) (runs (cut_at_close (words_left c.args.words.now))) c.in-Some-take_word.ensures.word (sym c.if-is_close-2.ensures) (sym c.if-is_open-2.ensures)
    (next_run [] c.in-Some.first.now (words_left c.take_word.new.lexer) (words_left c.args.words.now) (runs (cut_at_close (words_left c.args.words.now))) c.in-Some.ensures.word (sym c.if-is_close.ensures) (sym c.if-is_open.ensures) (with_digits-nil (runs (cut_at_close (words_left c.args.words.now)))))

pub returns-in-Some-2-clause-found : goal.returns-in-Some-2-clause-found
returns-in-Some-2-clause-found c =
    (rw c.in-Some-2.is at c.in_ok-digits.ensures.found)
    ∙ (next_run c.in-Some.first.now c.in-Some-take_word.second.now (words_left c.take_word-2.new.lexer) (words_left c.take_word.new.lexer) (runs (cut_at_close (words_left c.args.words.now))) c.in-Some-take_word.ensures.word (sym c.if-is_close-2.ensures) (sym c.if-is_open-2.ensures)
    (next_run [] c.in-Some.first.now (words_left c.take_word.new.lexer) (words_left c.args.words.now) (runs (cut_at_close (words_left c.args.words.now))) c.in-Some.ensures.word (sym c.if-is_close.ensures) (sym c.if-is_open.ensures) (with_digits-nil (runs (cut_at_close (words_left c.args.words.now))))))

pub returns-in-None-clause-found : goal.returns-in-None-clause-found
returns-in-None-clause-found c =
    (rw c.in-None.is at c.in_ok-digits.ensures.found)
    ∙ (next_run c.in-Some.first.now c.in-Some-take_word.second.now (words_left c.take_word-2.new.lexer) (words_left c.take_word.new.lexer) (runs (cut_at_close (words_left c.args.words.now))) c.in-Some-take_word.ensures.word (sym c.if-is_close-2.ensures) (sym c.if-is_open-2.ensures)
    (next_run [] c.in-Some.first.now (words_left c.take_word.new.lexer) (words_left c.args.words.now) (runs (cut_at_close (words_left c.args.words.now))) c.in-Some.ensures.word (sym c.if-is_close.ensures) (sym c.if-is_open.ensures) (with_digits-nil (runs (cut_at_close (words_left c.args.words.now))))))

pub returns-then-is_close-clause-behind : goal.returns-then-is_close-clause-behind
returns-then-is_close-clause-behind c = behind_word (left c.args.words.now) (left c.args.words.now) (left c.take_word.new.lexer) c.in-Some.first.now c.in-Some.ensures.after (behind_none (left c.args.words.now))

pub returns-then-is_open-clause-behind : goal.returns-then-is_open-clause-behind
returns-then-is_open-clause-behind c = behind_word (left c.args.words.now) (left c.args.words.now) (left c.take_word.new.lexer) c.in-Some.first.now c.in-Some.ensures.after (behind_none (left c.args.words.now))

pub returns-in_default-take_word-clause-behind : goal.returns-in_default-take_word-clause-behind
returns-in_default-take_word-clause-behind c =
    behind_same (left c.args.words.now) (left c.take_word.new.lexer) (left c.take_word-2.new.lexer) c.in_default-take_word.ensures.after (behind_word (left c.args.words.now) (left c.args.words.now) (left c.take_word.new.lexer) c.in-Some.first.now c.in-Some.ensures.after (behind_none (left c.args.words.now)))

pub returns-then-is_close-2-clause-behind : goal.returns-then-is_close-2-clause-behind
returns-then-is_close-2-clause-behind c =
    behind_word (left c.args.words.now) (left c.take_word.new.lexer) (left c.take_word-2.new.lexer) c.in-Some-take_word.second.now c.in-Some-take_word.ensures.after (behind_word (left c.args.words.now) (left c.args.words.now) (left c.take_word.new.lexer) c.in-Some.first.now c.in-Some.ensures.after (behind_none (left c.args.words.now)))

pub returns-then-is_open-2-clause-behind : goal.returns-then-is_open-2-clause-behind
returns-then-is_open-2-clause-behind c =
    behind_word (left c.args.words.now) (left c.take_word.new.lexer) (left c.take_word-2.new.lexer) c.in-Some-take_word.second.now c.in-Some-take_word.ensures.after (behind_word (left c.args.words.now) (left c.args.words.now) (left c.take_word.new.lexer) c.in-Some.first.now c.in-Some.ensures.after (behind_none (left c.args.words.now)))

pub returns-in_err-digits-clause-behind : goal.returns-in_err-digits-clause-behind
returns-in_err-digits-clause-behind c =
    behind_both (left c.args.words.now) (left c.take_word-2.new.lexer) (left c.joined.new.words) (behind_word (left c.args.words.now) (left c.take_word.new.lexer) (left c.take_word-2.new.lexer) c.in-Some-take_word.second.now c.in-Some-take_word.ensures.after (behind_word (left c.args.words.now) (left c.args.words.now) (left c.take_word.new.lexer) c.in-Some.first.now c.in-Some.ensures.after (behind_none (left c.args.words.now)))) c.joined.ensures.behind

pub returns-in-Some-2-clause-behind : goal.returns-in-Some-2-clause-behind
returns-in-Some-2-clause-behind c =
    behind_both (left c.args.words.now) (left c.take_word-2.new.lexer) (left c.joined.new.words) (behind_word (left c.args.words.now) (left c.take_word.new.lexer) (left c.take_word-2.new.lexer) c.in-Some-take_word.second.now c.in-Some-take_word.ensures.after (behind_word (left c.args.words.now) (left c.args.words.now) (left c.take_word.new.lexer) c.in-Some.first.now c.in-Some.ensures.after (behind_none (left c.args.words.now)))) c.joined.ensures.behind

pub returns-in-None-clause-behind : goal.returns-in-None-clause-behind
returns-in-None-clause-behind c =
    behind_both (left c.args.words.now) (left c.take_word-2.new.lexer) (left c.joined.new.words) (behind_word (left c.args.words.now) (left c.take_word.new.lexer) (left c.take_word-2.new.lexer) c.in-Some-take_word.second.now c.in-Some-take_word.ensures.after (behind_word (left c.args.words.now) (left c.args.words.now) (left c.take_word.new.lexer) c.in-Some.first.now c.in-Some.ensures.after (behind_none (left c.args.words.now)))) c.joined.ensures.behind
