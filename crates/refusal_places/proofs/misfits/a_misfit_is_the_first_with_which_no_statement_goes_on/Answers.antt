use Rattle.refusal_places.proofs.MisfitFirst.{misfits_come_first}
use Rattle.refusal_places.proofs.misfits.a_misfit_is_the_first_with_which_no_statement_goes_on.Goals as goal

pub returns : goal.returns
returns c = misfits_come_first c.forms_are_read_as_they_are_written.ensures
