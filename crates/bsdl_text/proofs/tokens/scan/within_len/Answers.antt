use Rattle.std.proofs.Common.{◌∙◌}
use Rattle.bsdl_text.proofs.Lines.{within_len_is}
use Rattle.bsdl_text.proofs.tokens.scan.within_len.Goals as goal

pub returns-clause-value : goal.returns-clause-value
returns-clause-value c = c.unwrap_or.ensures ∙ within_len_is c.args.text.now c.memchr3.result c.memchr3.ensures
