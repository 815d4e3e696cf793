use Rattle.play_model.proofs.DescribedPlays.{described}
use Rattle.play_model.proofs.legal.every_described_board_plays_legal_programs.Goals as goal

pub returns : goal.returns
returns c = described
