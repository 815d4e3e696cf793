use Rattle.bsdl_text.proofs.Cuttings.{each_is_cut, tokens_are_one, bad_byte_is_one, never_both}
use Rattle.bsdl_text.proofs.tokens.laws.a_text_has_one_cutting.Goals as goal

pub returns : goal.returns
returns c = record { some = each_is_cut; one = tokens_are_one; one_bad_byte = bad_byte_is_one; never_both = never_both }
