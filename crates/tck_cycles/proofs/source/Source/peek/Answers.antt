use Rattle.std.proofs.Common.{sym, ◌∙◌}
use Rattle.tck_cycles.specs.Sources.{whole}
use Rattle.tck_cycles.proofs.Places.{first_left}
use Rattle.tck_cycles.proofs.source.Source.peek.Goals as goal

pub returns : goal.returns
returns c = c.present.ensures ∙ sym (first_left (whole c.args.self.now) c.args.self.now.at)
