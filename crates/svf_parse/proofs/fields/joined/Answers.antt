use Rattle.std.proofs.Common.{◌++◌, sym}
use Rattle.svf_words.specs.Words.{words_left}
use Rattle.svf_lex.specs.Left.{left}
use Rattle.svf_parse.proofs.NextWords.{behind_word}
use Rattle.svf_parse.specs.Fields.{cut_at_close, runs}
use Rattle.svf_parse.proofs.FieldLaws.{with_digits, next_run, ended_runs, broken_runs, unended_runs}
use Rattle.svf_parse.proofs.fields.joined.Goals as goal

pub returns-then-is_close-clause-found : goal.returns-then-is_close-clause-found
returns-then-is_close-clause-found c =
    ended_runs c.loop-word.digits.items c.in-Some.word.now (words_left c.take_word.new.lexer) (words_left c.loop-word.words) (with_digits (c.args.first.now ++ c.args.second.now) (runs (cut_at_close (words_left c.args.words.now)))) c.in-Some.ensures.word (sym c.if-is_close.ensures) c.loop-word.invariant.0

pub returns-then-is_open-clause-found : goal.returns-then-is_open-clause-found
returns-then-is_open-clause-found c =
    broken_runs c.loop-word.digits.items c.in-Some.word.now (words_left c.take_word.new.lexer) (words_left c.loop-word.words) (with_digits (c.args.first.now ++ c.args.second.now) (runs (cut_at_close (words_left c.args.words.now)))) c.in-Some.ensures.word (sym c.if-is_close.ensures) (sym c.if-is_open.ensures) c.loop-word.invariant.0

pub loop-word-preserved : goal.loop-word-preserved
loop-word-preserved c = (
  rw c.in_ok-extend_from_slice-3.ensures.items
      (next_run c.loop-word.digits.items c.in-Some.word.now (words_left c.take_word.new.lexer) (words_left c.loop-word.words) (with_digits (c.args.first.now ++ c.args.second.now) (runs (cut_at_close (words_left c.args.words.now)))) c.in-Some.ensures.word (sym c.if-is_close.ensures) (sym c.if-is_open.ensures) c.loop-word.invariant.0),
  behind_word (left c.args.words.now) (left c.loop-word.words) (left c.take_word.new.lexer) c.in-Some.word.now c.in-Some.ensures.after c.loop-word.invariant.1,
)

pub returns-clause-found : goal.returns-clause-found
returns-clause-found c =
    unended_runs c.loop-word.digits.items (words_left c.loop-word.words) (with_digits (c.args.first.now ++ c.args.second.now) (runs (cut_at_close (words_left c.args.words.now)))) c.in_default.ensures.word c.loop-word.invariant.0

pub returns-then-is_close-clause-behind : goal.returns-then-is_close-clause-behind
returns-then-is_close-clause-behind c =
    behind_word (left c.args.words.now) (left c.loop-word.words) (left c.take_word.new.lexer) c.in-Some.word.now c.in-Some.ensures.after c.loop-word.invariant.1

pub returns-then-is_open-clause-behind : goal.returns-then-is_open-clause-behind
returns-then-is_open-clause-behind c =
    behind_word (left c.args.words.now) (left c.loop-word.words) (left c.take_word.new.lexer) c.in-Some.word.now c.in-Some.ensures.after c.loop-word.invariant.1

pub returns-in_err-extend_from_slice-3-clause-behind : goal.returns-in_err-extend_from_slice-3-clause-behind
returns-in_err-extend_from_slice-3-clause-behind c =
    behind_word (left c.args.words.now) (left c.loop-word.words) (left c.take_word.new.lexer) c.in-Some.word.now c.in-Some.ensures.after c.loop-word.invariant.1
