use Rattle.std.proofs.Common.{sym, ◌∙◌}
use Rattle.svf_lex.specs.Left.{left}
use Rattle.svf_words.specs.Words.{groups_of}
use Rattle.svf_parse.specs.Ahead.{groups_ahead}
use Rattle.svf_parse.proofs.AheadLaws.{goes_far}
use Rattle.svf_parse.proofs.run_test.take_run_test.Goals as goal

pub returns-in_default-clause-behind : goal.returns-in_default-clause-behind
returns-in_default-clause-behind c =
    let all = goes_far (groups_ahead c.look.result) (groups_ahead c.take_state-run.result.1) (groups_ahead c.take_count.result.1) (groups_ahead c.take_time.result.1) (groups_ahead c.maximum_behind.result.1) (groups_ahead c.take_end-end.result.1) (groups_of (left c.lexer_behind.result))
    c.take_state-run.ensures.behind c.take_count.ensures.behind c.take_time.ensures.behind c.maximum_behind.ensures.behind c.take_end-end.ensures.behind c.lexer_behind.ensures in
    (all.0, sym c.look.ensures.groups ∙ all.1)

pub returns-then-is_none-2-clause-behind : goal.returns-then-is_none-2-clause-behind
returns-then-is_none-2-clause-behind c =
    let all = goes_far (groups_ahead c.look.result) (groups_ahead c.take_state-run.result.1) (groups_ahead c.take_count.result.1) (groups_ahead c.take_time.result.1) (groups_ahead c.maximum_behind.result.1) (groups_ahead c.take_end-end.result.1) (groups_of (left c.lexer_behind.result))
    c.take_state-run.ensures.behind c.take_count.ensures.behind c.take_time.ensures.behind c.maximum_behind.ensures.behind c.take_end-end.ensures.behind c.lexer_behind.ensures in
    (all.0, sym c.look.ensures.groups ∙ all.1)

pub returns-clause-behind : goal.returns-clause-behind
returns-clause-behind c =
    let all = goes_far (groups_ahead c.look.result) (groups_ahead c.take_state-run.result.1) (groups_ahead c.take_count.result.1) (groups_ahead c.take_time.result.1) (groups_ahead c.maximum_behind.result.1) (groups_ahead c.take_end-end.result.1) (groups_of (left c.lexer_behind.result))
    c.take_state-run.ensures.behind c.take_count.ensures.behind c.take_time.ensures.behind c.maximum_behind.ensures.behind c.take_end-end.ensures.behind c.lexer_behind.ensures in
    (all.0, sym c.look.ensures.groups ∙ all.1)
