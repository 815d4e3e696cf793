use Rattle.board_tables.proofs.KeyLaws.{other_keys}
use Rattle.board_tables.proofs.laws.judged_by_other_keys.Goals as goal

pub returns : goal.returns
returns c = other_keys
