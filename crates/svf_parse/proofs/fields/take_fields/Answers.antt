use Rattle.std.proofs.Common.{length, refl, ap, arith}
use Rattle.svf_words.specs.Words.{words_left}
use Rattle.svf_parse.specs.Fields.{no_fields, cut_at_close, fields_say}
use Rattle.svf_lex.specs.Left.{left}
use Rattle.svf_parse.specs.FormView.{digits_of, fields}
use Rattle.svf_parse.proofs.NextWords.{behind_none, behind_word, behind_both, behind_fewer}
use Rattle.svf_parse.proofs.FieldLaws.{no_field, all_fields, field_missing, field_twice, field_put}
use Rattle.svf_parse.proofs.fields.take_fields.Goals as goal

pub returns-in_default-field_of-clause-says : goal.returns-in_default-field_of-clause-says
returns-in_default-field_of-clause-says c =
    no_field (fields c.loop-word.all) c.in-Some.word.now (words_left c.take_word.new.lexer) (words_left c.loop-word.words) (fields_say no_fields (cut_at_close (words_left c.args.words.now))) c.in-Some.ensures.word c.in_default-field_of.ensures c.loop-word.invariant.says

pub returns-in_default-2-clause-says : goal.returns-in_default-2-clause-says
returns-in_default-2-clause-says c =
    field_missing (fields c.loop-word.all) c.in-Some.word.now (words_left c.take_word.new.lexer) (words_left c.loop-word.words) c.in-Some-field_of.name (fields_say no_fields (cut_at_close (words_left c.args.words.now))) c.in-Some.ensures.word c.in-Some-field_of.ensures (rw c.in_default-2.is at c.in_ok-digits.ensures.found) c.loop-word.invariant.says

pub returns-then-not-put-clause-says : goal.returns-then-not-put-clause-says
returns-then-not-put-clause-says c =
    field_twice (fields c.loop-word.all) c.in-Some.word.now (words_left c.take_word.new.lexer) (words_left c.loop-word.words) c.in-Some-field_of.name (digits_of c.in-Some-2.digits) (cut_at_close (words_left c.bracket.new.words)) (fields_say no_fields (cut_at_close (words_left c.args.words.now))) c.in-Some.ensures.word c.in-Some-field_of.ensures (rw c.in-Some-2.is at c.in_ok-digits.ensures.found) c.if-not-put.ensures c.loop-word.invariant.says

pub loop-word-preserved : goal.loop-word-preserved
loop-word-preserved c = record {
  says = field_put (fields c.loop-word.all) (fields c.put.new.all) c.in-Some.word.now (words_left c.take_word.new.lexer) (words_left c.loop-word.words) c.in-Some-field_of.name (digits_of c.in-Some-2.digits) (cut_at_close (words_left c.bracket.new.words)) (fields_say no_fields (cut_at_close (words_left c.args.words.now))) c.in-Some.ensures.word c.in-Some-field_of.ensures (rw c.in-Some-2.is at c.in_ok-digits.ensures.found) c.if-not-put.ensures c.loop-word.invariant.says;
  behind = behind_both (left c.args.words.now) (left c.take_word.new.lexer) (left c.bracket.new.words)
      (behind_word (left c.args.words.now) (left c.loop-word.words) (left c.take_word.new.lexer) c.in-Some.word.now c.in-Some.ensures.after c.loop-word.invariant.behind)
      c.bracket.ensures.behind;
}

pub returns-clause-says : goal.returns-clause-says
returns-clause-says c =
    all_fields (fields c.loop-word.all) (words_left c.loop-word.words) (fields_say no_fields (cut_at_close (words_left c.args.words.now))) c.in_default.ensures.word c.loop-word.invariant.says

pub loop-word-init : goal.loop-word-init
loop-word-init c = record { says = refl; behind = behind_none (left c.args.words.now) }

pub returns-in_default-field_of-clause-behind : goal.returns-in_default-field_of-clause-behind
returns-in_default-field_of-clause-behind c =
    behind_word (left c.args.words.now) (left c.loop-word.words) (left c.take_word.new.lexer) c.in-Some.word.now c.in-Some.ensures.after c.loop-word.invariant.behind

pub returns-in_err-digits-clause-behind : goal.returns-in_err-digits-clause-behind
returns-in_err-digits-clause-behind c =
    behind_both (left c.args.words.now) (left c.take_word.new.lexer) (left c.bracket.new.words)
    (behind_word (left c.args.words.now) (left c.loop-word.words) (left c.take_word.new.lexer) c.in-Some.word.now c.in-Some.ensures.after c.loop-word.invariant.behind) c.bracket.ensures.behind

pub returns-in_default-2-clause-behind : goal.returns-in_default-2-clause-behind
returns-in_default-2-clause-behind c =
    behind_both (left c.args.words.now) (left c.take_word.new.lexer) (left c.bracket.new.words)
    (behind_word (left c.args.words.now) (left c.loop-word.words) (left c.take_word.new.lexer) c.in-Some.word.now c.in-Some.ensures.after c.loop-word.invariant.behind) c.bracket.ensures.behind

pub returns-then-not-put-clause-behind : goal.returns-then-not-put-clause-behind
returns-then-not-put-clause-behind c =
    behind_both (left c.args.words.now) (left c.take_word.new.lexer) (left c.bracket.new.words)
    (behind_word (left c.args.words.now) (left c.loop-word.words) (left c.take_word.new.lexer) c.in-Some.word.now c.in-Some.ensures.after c.loop-word.invariant.behind) c.bracket.ensures.behind

pub loop-word-smaller : goal.loop-word-smaller
loop-word-smaller c = omega (arith, ap length c.in-Some.ensures.word, behind_fewer c.take_word.new.lexer c.bracket.new.words c.bracket.ensures.behind)
