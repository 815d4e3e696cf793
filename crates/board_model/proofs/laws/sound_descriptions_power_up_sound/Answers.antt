use Rattle.board_model.proofs.Powered.{powered_sound}
use Rattle.board_model.proofs.laws.sound_descriptions_power_up_sound.Goals as goal

pub returns : goal.returns
returns c = powered_sound
