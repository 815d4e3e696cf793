use Rattle.bsdl_text.proofs.Cuttings.{tokens_are_cut, bad_byte_is_cut}
use Rattle.bsdl_text.proofs.tokens.laws.tokens_with_gaps_are_the_cut.Goals as goal

pub returns : goal.returns
returns c = record { tokens = tokens_are_cut; bad_byte = bad_byte_is_cut }
