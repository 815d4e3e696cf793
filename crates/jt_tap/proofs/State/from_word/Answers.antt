use Rattle.std.proofs.Common.{◌∙◌}
use Rattle.jt_tap.specs.declared.TheConstants.{STATES}
use Rattle.jt_tap.proofs.WordLaws.{IfSome-find, find-word}
use Rattle.jt_tap.proofs.State.from_word.Goals as goal

pub returns-clause-found : goal.returns-clause-found
returns-clause-found c = rw c.first_read.ensures (IfSome-find c.args.text.now STATES)

pub returns-clause-only : goal.returns-clause-only
returns-clause-only c = λ s e. c.first_read.ensures ∙ find-word _ s e
