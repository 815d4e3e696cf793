use Rattle.bsdl.proofs.LimitedLaws.{every_device}
use Rattle.bsdl.proofs.laws.every_device_is_limited.Goals as goal

pub returns : goal.returns
returns c = every_device
