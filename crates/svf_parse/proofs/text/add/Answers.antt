use Rattle.std.proofs.Common.{◌∷◌, Some, arith}
use Rattle.svf_lex.specs.Left.{left}
use Rattle.svf_words.specs.declared.fault.Code.TheVariants as code
use Rattle.svf_words.specs.Words.{groups_of, words_left}
use Rattle.svf_parse.specs.declared.fault.Stop.TheVariants as stop
use Rattle.svf_parse.specs.Reading.{statement_says}
use Rattle.svf_parse.specs.View.{said_of}
use Rattle.svf_parse.proofs.Grouping.{past_limit, inside_limit, broken_behind, taken_behind, refused_behind, last_from, group_from, open_from}
use Rattle.svf_parse.proofs.text.add.Goals as goal

pub end_of-requires : goal.end_of-requires
end_of-requires c = open_from (left c.args.words) (left c.say_word-said.new.words) c.say_word-said.ensures.behind c.requires

pub returns-in-Broken-clause-takes : goal.returns-in-Broken-clause-takes
returns-in-Broken-clause-takes c =
    let end = last_from (left c.args.words) (left c.say_word-said.new.words) c.in-Broken.ensures.0 (Some c.in-Broken.fault) c.say_word-said.ensures.behind c.in-Broken.ensures.1 in
    rw (broken_behind c.args.number c.args.word.now (groups_of (left c.args.words)) end.0 c.in-Broken.fault end.1) c.broken.ensures

pub returns-in-Ok-clause-takes : goal.returns-in-Ok-clause-takes
unfolding words_left
returns-in-Ok-clause-takes c =
    let after = groups_of (left c.in-Closed.after) in
    let end = group_from (left c.args.words) (left c.say_word-said.new.words) c.in-Closed.ensures.0 after c.say_word-said.ensures.behind c.in-Closed.ensures.1 in
    refused_behind c.args.number c.args.word.now (groups_of (left c.args.words)) end.0 after (stop.Fault (record { statement = c.args.number; code = code.TooLarge })) end.1
    (past_limit c.args.number (c.args.word.now ∷ words_left c.args.words) (said_of c.in-Ok.ensures.adds.0) c.in-Ok.ensures.adds.2
    (omega (arith, c.if-number-gt-STATEMENT_LIMIT.true)))

pub returns-in-Ok-2-clause-takes : goal.returns-in-Ok-2-clause-takes
unfolding words_left
returns-in-Ok-2-clause-takes c =
    let after = groups_of (left c.in-Closed.after) in
    let end = group_from (left c.args.words) (left c.say_word-said.new.words) c.in-Closed.ensures.0 after c.say_word-said.ensures.behind c.in-Closed.ensures.1 in (
      end.0,
      c.in-Ok.ensures.adds.0,
      end.1,
      c.in-Ok.ensures.adds.1,
      taken_behind c.args.number c.args.word.now (groups_of (left c.args.words)) end.0 after (said_of c.in-Ok.ensures.adds.0) end.1
          (inside_limit c.args.number (c.args.word.now ∷ words_left c.args.words) (said_of c.in-Ok.ensures.adds.0) c.in-Ok.ensures.adds.2
          (omega (arith, c.if-number-gt-STATEMENT_LIMIT.false))),
    )

pub returns-in-Err-clause-takes : goal.returns-in-Err-clause-takes
unfolding words_left
returns-in-Err-clause-takes c =
    let after = groups_of (left c.in-Closed.after) in
    let end = group_from (left c.args.words) (left c.say_word-said.new.words) c.in-Closed.ensures.0 after c.say_word-said.ensures.behind c.in-Closed.ensures.1 in
    refused_behind c.args.number c.args.word.now (groups_of (left c.args.words)) end.0 after c.stop_at.result end.1
    (c.stop_at.ensures (statement_says (c.args.word.now ∷ words_left c.args.words)) c.in-Err.ensures.adds)
