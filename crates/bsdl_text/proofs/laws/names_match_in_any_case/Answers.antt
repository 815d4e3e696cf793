use Rattle.bsdl_text.proofs.NameLaws.{names_match_in_any_case}
use Rattle.bsdl_text.proofs.laws.names_match_in_any_case.Goals as goal

pub returns : goal.returns
returns c = names_match_in_any_case
