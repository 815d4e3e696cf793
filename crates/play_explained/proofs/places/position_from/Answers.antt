use Rattle.std.proofs.Common.{arith}
use Rattle.play_explained.proofs.places.position_from.Goals as goal

pub position_behind-requires-clause-ahead : goal.position_behind-requires-clause-ahead
position_behind-requires-clause-ahead c = omega (arith, c.none_passed.ensures.none)
