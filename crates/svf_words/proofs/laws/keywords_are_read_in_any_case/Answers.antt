use Rattle.svf_words.proofs.KeywordLaws.{clock_found, clock_read, command_found, command_read, field_found, field_read}
use Rattle.svf_words.proofs.KeywordLaws.{state_found, state_read, trst_found, trst_read}
use Rattle.svf_words.proofs.laws.keywords_are_read_in_any_case.Goals as goal

pub returns-clause-commands : goal.returns-clause-commands
returns-clause-commands c = λ w k. (command_read w k, command_found w k)

pub returns-clause-fields : goal.returns-clause-fields
returns-clause-fields c = λ w k. (field_read w k, field_found w k)

pub returns-clause-clocks : goal.returns-clause-clocks
returns-clause-clocks c = λ w k. (clock_read w k, clock_found w k)

pub returns-clause-trst : goal.returns-clause-trst
returns-clause-trst c = λ w k. (trst_read w k, trst_found w k)

pub returns-clause-states : goal.returns-clause-states
returns-clause-states c = λ w k. (state_read w k, state_found w k)
