use Rattle.std.proofs.Common.{◌≡◌, drop}
use Rattle.bsdl_sizes.specs.Spots.{first_spot}
use Rattle.bsdl_sizes.proofs.spots.first_spot.Given as goal

abbrev pub invariant-loop-spot : goal.invariant-loop-spot
invariant-loop-spot l = first_spot (drop l.spot-index l.spots) ≡ first_spot l.spots
