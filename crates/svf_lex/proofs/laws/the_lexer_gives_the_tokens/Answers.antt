use Rattle.svf_lex.proofs.Endings.{lexer_gives}
use Rattle.svf_lex.proofs.laws.the_lexer_gives_the_tokens.Goals as goal

pub returns : goal.returns
returns c = lexer_gives
