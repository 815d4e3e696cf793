use Rattle.std.proofs.Common.{◌∙◌}
use Rattle.token_runs.proofs.Lines.{line_len_is}
use Rattle.token_runs.proofs.line_len.Goals as goal

pub returns-clause-value : goal.returns-clause-value
returns-clause-value c = c.unwrap_or.ensures ∙ line_len_is c.args.text.now c.memchr2.result c.memchr2.ensures
