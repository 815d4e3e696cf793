use Rattle.refusal_places.proofs.FirstTokens.{position_of_first_token}
use Rattle.refusal_places.proofs.text_positions.laws.a_statement_stands_at_its_first_token.Goals as goal

pub returns : goal.returns
returns c = position_of_first_token c.the_lexer_gives_the_tokens.ensures
