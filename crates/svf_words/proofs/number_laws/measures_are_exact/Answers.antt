use Rattle.svf_words.proofs.MeasureLaws.{counts_are_whole, periods_are_least, times_are_least}
use Rattle.svf_words.proofs.number_laws.measures_are_exact.Goals as goal

pub returns-clause-period : goal.returns-clause-period
returns-clause-period c = periods_are_least

pub returns-clause-time : goal.returns-clause-time
returns-clause-time c = times_are_least

pub returns-clause-count : goal.returns-clause-count
returns-clause-count c = counts_are_whole
