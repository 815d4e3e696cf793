use Rattle.board_reasons.proofs.Verdicts.{turning, no_other}
use Rattle.board_reasons.proofs.origins.laws.only_its_origin_turns_a_bit.Goals as goal

pub returns-clause-turned : goal.returns-clause-turned
returns-clause-turned c = turning

pub returns-clause-others : goal.returns-clause-others
returns-clause-others c = no_other
