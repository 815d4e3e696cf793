use Rattle.std.proofs.Common.{map}
use Rattle.svf_parse.specs.View.{said_of}
use Rattle.svf_settings.proofs.KeptPrograms.{answers_found, answers_only, answers_refused, answers_first, answers_sound, answers_small}
use Rattle.svf_settings.proofs.resolving.resolve.Goals as goal

pub returns-clause-found : goal.returns-clause-found
returns-clause-found c = answers_found (map said_of c.args.statements.items) c.read.result c.read.ensures.answers

pub returns-clause-only : goal.returns-clause-only
returns-clause-only c = λ p h. answers_only (map said_of c.args.statements.items) c.read.result p c.read.ensures.answers h

pub returns-clause-refused : goal.returns-clause-refused
returns-clause-refused c = answers_refused (map said_of c.args.statements.items) c.read.result c.read.ensures.answers

pub returns-clause-first : goal.returns-clause-first
returns-clause-first c = λ f h. answers_first (map said_of c.args.statements.items) c.read.result f c.read.ensures.answers h

pub returns-clause-sound : goal.returns-clause-sound
returns-clause-sound c = answers_sound (map said_of c.args.statements.items) c.read.result c.read.ensures.answers

pub returns-clause-small : goal.returns-clause-small
returns-clause-small c = answers_small (map said_of c.args.statements.items) c.read.result c.read.ensures.answers c.read.ensures.held
