use Rattle.svf_parse.proofs.FormLaws.{forms_are_read}
use Rattle.svf_parse.proofs.form_laws.forms_are_read_as_they_are_written.Goals as goal

pub returns : goal.returns
returns c = forms_are_read
