use Rattle.svf_words.proofs.WithinLaws.{periods_limited, times_limited, counts_limited, lengths_limited}
use Rattle.svf_words.proofs.number_laws.numbers_are_limited.Goals as goal

pub returns-clause-period : goal.returns-clause-period
returns-clause-period c = periods_limited

pub returns-clause-time : goal.returns-clause-time
returns-clause-time c = times_limited

pub returns-clause-count : goal.returns-clause-count
returns-clause-count c = counts_limited

pub returns-clause-length : goal.returns-clause-length
returns-clause-length c = lengths_limited
