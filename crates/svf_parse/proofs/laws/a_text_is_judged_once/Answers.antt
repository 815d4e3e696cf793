use Rattle.svf_parse.proofs.JudgedLaws.{each_is_judged, spells_one, refuses_one, never_both}
use Rattle.svf_parse.proofs.laws.a_text_is_judged_once.Goals as goal

pub returns-clause-some : goal.returns-clause-some
returns-clause-some c = each_is_judged

pub returns-clause-one_list : goal.returns-clause-one_list
returns-clause-one_list c = spells_one

pub returns-clause-one_refusal : goal.returns-clause-one_refusal
returns-clause-one_refusal c = refuses_one

pub returns-clause-never_both : goal.returns-clause-never_both
returns-clause-never_both c = never_both
