use Rattle.std.proofs.Common.{arith}
use Rattle.board_chips.proofs.wiring.Wiring.pin_count.Goals as goal

pub returns-clause-few : goal.returns-clause-few
returns-clause-few c = let pins = c.self.inside.pins in omega (arith, c.len.ensures, pins.ok.1, pins.small)
