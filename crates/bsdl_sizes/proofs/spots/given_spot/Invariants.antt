use Rattle.std.proofs.Common.{◌≡◌, drop, map}
use Rattle.bsdl_entity.specs.GivenView.{given}
use Rattle.bsdl_sizes.specs.Spots.{attribute_spot}
use Rattle.bsdl_sizes.proofs.spots.given_spot.Given as goal

abbrev pub invariant-loop-giving : goal.invariant-loop-giving
invariant-loop-giving l = attribute_spot (map given (drop l.giving-index l.given)) l.attribute ≡ attribute_spot (map given l.given) l.attribute
