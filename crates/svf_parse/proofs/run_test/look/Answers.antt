use Rattle.std.proofs.Common.{sym, ◌∙◌}
use Rattle.svf_parse.proofs.run_test.look.Goals as goal

pub returns-in-Some-clause-groups : goal.returns-in-Some-clause-groups
returns-in-Some-clause-groups c = c.look_behind.ensures.groups ∙ sym c.in-Some.ensures.after
