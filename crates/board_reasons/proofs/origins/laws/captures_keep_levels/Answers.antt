use Rattle.board_reasons.proofs.Captures.{kept_levels}
use Rattle.board_reasons.proofs.origins.laws.captures_keep_levels.Goals as goal

pub returns : goal.returns
returns c = kept_levels c.the_bits_in_force_stay.ensures
