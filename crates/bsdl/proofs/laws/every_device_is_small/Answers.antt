use Rattle.bsdl.proofs.SmallLaws.{every_device}
use Rattle.bsdl.proofs.laws.every_device_is_small.Goals as goal

pub returns : goal.returns
returns c = every_device
