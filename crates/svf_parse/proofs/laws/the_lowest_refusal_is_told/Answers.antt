use Rattle.svf_parse.proofs.LeastLaws.{least_form}
use Rattle.svf_parse.proofs.laws.the_lowest_refusal_is_told.Goals as goal

pub returns-clause-least : goal.returns-clause-least
returns-clause-least c = λ f d e. let l = least_form f in (l.says d e, λ b h. l.least d b e h)

pub returns-clause-accepted : goal.returns-clause-accepted
returns-clause-accepted c = λ f s d e h. let l = least_form f in l.none s d e h
