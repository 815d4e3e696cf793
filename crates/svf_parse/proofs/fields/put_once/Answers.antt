use Rattle.std.proofs.Common.{ap}
use Rattle.svf_parse.specs.FormView.{given, digits_of}
use Rattle.svf_parse.proofs.fields.put_once.Goals as goal

pub returns-in-Some : goal.returns-in-Some
returns-in-Some c = (digits_of c.in-Some.field-0, ap given c.in-Some.is)
