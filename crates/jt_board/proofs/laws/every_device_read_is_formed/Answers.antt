use Rattle.jt_board.proofs.FormedLaws.{every_device}
use Rattle.jt_board.proofs.laws.every_device_read_is_formed.Goals as goal

pub returns : goal.returns
returns c = every_device
