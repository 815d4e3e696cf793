use Rattle.board_chips.proofs.BlockLaws.{changed_bit}
use Rattle.board_chips.proofs.refreshing.changed_slots.Goals as goal

pub returns : goal.returns
returns c = λ j h. changed_bit c.args.slots c.args.put c.args.now j c.ranges.slots.fits h
