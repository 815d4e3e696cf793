use Rattle.std.proofs.Common.{length}
use Rattle.svf_lex.specs.Left.{left}
use Rattle.svf_parse.specs.Behind.{Behind}
use Rattle.svf_parse.proofs.text.end_of.Given as goal

abbrev pub invariant-loop-fault : goal.invariant-loop-fault
invariant-loop-fault l = Behind (left l.words) (left l.after)

abbrev pub decreases-loop-fault : goal.decreases-loop-fault
decreases-loop-fault l = length (left l.after)
