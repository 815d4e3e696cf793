use Rattle.std.proofs.Common.{◌∙◌, ap, is_some}
use Rattle.board_parts.proofs.PinLaws.{pin_there}
use Rattle.board_parts.proofs.twice.has_pin.Goals as goal

pub returns : goal.returns
returns c = c.is_some.ensures ∙ ap is_some c.place.ensures ∙ pin_there c.args.pin c.args.used.now
