use Rattle.std.proofs.Common.{◌≡◌, drop}
use Rattle.bsdl_entity.specs.GivenView.{first_unsaid}
use Rattle.bsdl_entity.proofs.stops.behind_given.Given as goal

-- the texts so far say something
abbrev pub invariant-loop-giving : goal.invariant-loop-giving
invariant-loop-giving l = first_unsaid l.given ≡ first_unsaid (drop l.giving-index l.given)
