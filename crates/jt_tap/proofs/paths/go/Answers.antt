use Rattle.jt_tap.proofs.Legal.{default_leads, some_states, few_states}
use Rattle.jt_tap.proofs.paths.go.Goals as goal

pub returns-clause-legal : goal.returns-clause-legal
returns-clause-legal c = rw c.default_path.ensures (default_leads c.args.from c.args.to c.requires.from c.requires.to)

pub returns-clause-some : goal.returns-clause-some
returns-clause-some c = rw c.default_path.ensures (some_states c.args.from c.args.to c.requires.from c.requires.to)

pub returns-clause-short : goal.returns-clause-short
returns-clause-short c = rw c.default_path.ensures (few_states c.args.from c.args.to c.requires.from c.requires.to)
