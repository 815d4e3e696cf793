use Rattle.svf_settings.proofs.PeriodChanges.{changes_few, changes_tell}
use Rattle.svf_settings.proofs.laws.changes_tell_the_period.Goals as goal

pub returns-clause-period : goal.returns-clause-period
returns-clause-period c = changes_tell

pub returns-clause-few : goal.returns-clause-few
returns-clause-few c = changes_few
