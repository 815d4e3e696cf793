use Rattle.board_model.proofs.SoundEdges.{sound-bytes}
use Rattle.board_model.proofs.laws.bytes_keep_registers_sound.Goals as goal

pub returns : goal.returns
returns c = sound-bytes
