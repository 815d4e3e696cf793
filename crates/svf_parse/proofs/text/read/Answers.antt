use Rattle.std.proofs.Common.{◌∙◌}
use Rattle.svf_parse.proofs.text.read.Goals as goal

pub returns-in-Ok : goal.returns-in-Ok
returns-in-Ok c = c.in_ok-lexer_of.ensures ∙ c.in-Ok.ensures
