use Rattle.bsdl.proofs.ExactLaws.{every_device}
use Rattle.bsdl.proofs.laws.every_device_is_exact.Goals as goal

pub returns : goal.returns
returns c = every_device
