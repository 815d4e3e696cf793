use Rattle.std.proofs.Common.{sym, vec_len}
use Rattle.svf_lex.specs.Left.{left}
use Rattle.svf_words.specs.Words.{words_left}
use Rattle.svf_parse.proofs.NextWords.{behind_none, behind_word}
use Rattle.svf_parse.specs.Forms.{each_state}
use Rattle.svf_parse.proofs.StateLists.{in_front-nil, one_more, no_state, all_read, some_read, no_states, empty_list, filled_list}
use Rattle.svf_parse.proofs.forms.some_states.Goals as goal

pub returns-in_default-state_of-clause-says : goal.returns-in_default-state_of-clause-says
returns-in_default-state_of-clause-says c =
    sym (no_state c.loop-word.all.items c.in-Some.word.now (words_left c.loop-word.words) (words_left c.take_word.new.lexer) (words_left c.args.words.now) c.in-Some.ensures.word (sym c.in_default-state_of.ensures) c.loop-word.invariant.0)

pub loop-word-preserved : goal.loop-word-preserved
loop-word-preserved c = (
  rw c.in_ok-push.ensures.items
      (one_more c.loop-word.all.items c.in-Some.word.now (words_left c.loop-word.words) (words_left c.take_word.new.lexer) c.in-Some-state_of.state (each_state (words_left c.args.words.now)) c.in-Some.ensures.word c.in-Some-state_of.ensures c.loop-word.invariant.0),
  behind_word (left c.args.words.now) (left c.loop-word.words) (left c.take_word.new.lexer) c.in-Some.word.now c.in-Some.ensures.after c.loop-word.invariant.1,
)

pub returns-then-is_empty-clause-says : goal.returns-then-is_empty-clause-says
returns-then-is_empty-clause-says c =
    sym (no_states c.loop-word.all.items (words_left c.args.words.now) (empty_list c.loop-word.all.items (vec_len c.loop-word.all) (sym c.loop-word.all.ok.0) c.if-is_empty.ensures) (all_read c.loop-word.all.items (words_left c.loop-word.words) (words_left c.args.words.now) c.in_default.ensures.word c.loop-word.invariant.0))

pub returns-clause-says : goal.returns-clause-says
returns-clause-says c =
    sym (some_read c.loop-word.all.items (words_left c.args.words.now) (filled_list c.loop-word.all.items (vec_len c.loop-word.all) (sym c.loop-word.all.ok.0) c.if-is_empty.ensures) (all_read c.loop-word.all.items (words_left c.loop-word.words) (words_left c.args.words.now) c.in_default.ensures.word c.loop-word.invariant.0))

pub loop-word-init : goal.loop-word-init
loop-word-init c = (rw c.new-all.ensures.items (in_front-nil (each_state (words_left c.args.words.now))), behind_none (left c.args.words.now))

pub returns-in_default-state_of-clause-behind : goal.returns-in_default-state_of-clause-behind
returns-in_default-state_of-clause-behind c =
    behind_word (left c.args.words.now) (left c.loop-word.words) (left c.take_word.new.lexer) c.in-Some.word.now c.in-Some.ensures.after c.loop-word.invariant.1

pub returns-in_err-push-clause-behind : goal.returns-in_err-push-clause-behind
returns-in_err-push-clause-behind c =
    behind_word (left c.args.words.now) (left c.loop-word.words) (left c.take_word.new.lexer) c.in-Some.word.now c.in-Some.ensures.after c.loop-word.invariant.1
