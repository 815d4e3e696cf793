use Rattle.jt_tap.proofs.Legal.{exit1_leads}
use Rattle.jt_tap.proofs.paths.from_exit1.Goals as goal

pub returns-clause-legal : goal.returns-clause-legal
returns-clause-legal c = rw c.exit1_path.ensures (exit1_leads c.args.column c.args.to c.requires)
