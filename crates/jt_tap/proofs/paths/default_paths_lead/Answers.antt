use Rattle.jt_tap.proofs.Legal.{default_leads, shift_leads, exit1_leads}
use Rattle.jt_tap.proofs.paths.default_paths_lead.Goals as goal

pub returns-clause-between : goal.returns-clause-between
returns-clause-between c = default_leads

pub returns-clause-to_shift : goal.returns-clause-to_shift
returns-clause-to_shift c = shift_leads

pub returns-clause-from_exit1 : goal.returns-clause-from_exit1
returns-clause-from_exit1 c = exit1_leads
