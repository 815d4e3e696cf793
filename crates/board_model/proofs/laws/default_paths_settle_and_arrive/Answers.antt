use Rattle.board_model.proofs.BoardLaws.{default_paths}
use Rattle.board_model.proofs.laws.default_paths_settle_and_arrive.Goals as goal

pub returns : goal.returns
returns c = default_paths
