use Rattle.std.proofs.Common.{◌∙◌}
use Rattle.jt_tap.proofs.StatedPaths.{tms_follows}
use Rattle.jt_tap.proofs.paths.follows.Goals as goal

pub returns : goal.returns
returns c = c.is_some.ensures ∙ tms_follows c.args.before c.args.state c.tms_of.result c.tms_of.ensures.found c.tms_of.ensures.only
