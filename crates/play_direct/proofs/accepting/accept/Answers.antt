use Rattle.play_direct.proofs.AcceptedTexts.{accepts_first, accepts_found, accepts_only, accepts_periods, accepts_refused}
use Rattle.play_direct.proofs.accepting.accept.Goals as goal

pub returns-clause-found : goal.returns-clause-found
returns-clause-found c = accepts_found c.args.text.now c.resolve_text.result c.resolve_text.ensures.answers

pub returns-clause-only : goal.returns-clause-only
returns-clause-only c = λ p h. accepts_only c.args.text.now c.resolve_text.result p c.resolve_text.ensures.answers h

pub returns-clause-refused : goal.returns-clause-refused
returns-clause-refused c = accepts_refused c.args.text.now c.resolve_text.result c.resolve_text.ensures.answers

pub returns-clause-first : goal.returns-clause-first
returns-clause-first c = λ fault why. accepts_first c.args.text.now c.resolve_text.result fault c.resolve_text.ensures.answers why

pub returns-clause-periods : goal.returns-clause-periods
returns-clause-periods c = accepts_periods c.args.text.now c.resolve_text.result c.resolve_text.ensures.periods
