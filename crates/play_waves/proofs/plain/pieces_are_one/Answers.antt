use Rattle.play_waves.proofs.PlainLaws.{pieces}
use Rattle.play_waves.proofs.plain.pieces_are_one.Goals as goal

pub returns : goal.returns
returns c = pieces
