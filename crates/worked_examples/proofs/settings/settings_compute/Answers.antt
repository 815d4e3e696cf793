use Rattle.worked_examples.proofs.SettingsCompute.{rows_compute}
use Rattle.worked_examples.proofs.settings.settings_compute.Goals as goal

pub returns : goal.returns
returns c = rows_compute
