use Rattle.bsdl.proofs.SoundLaws.{every_device}
use Rattle.bsdl.proofs.laws.every_device_is_sound.Goals as goal

pub returns : goal.returns
returns c = every_device
