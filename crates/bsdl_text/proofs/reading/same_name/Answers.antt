use Rattle.std.proofs.Common.{◌∙◌}
use Rattle.bsdl_text.proofs.NameLaws.{names_match_in_any_case}
use Rattle.bsdl_text.proofs.reading.same_name.Goals as goal

pub returns : goal.returns
returns c = c.are_equal.ensures ∙ names_match_in_any_case c.args.one.now c.args.other.now
