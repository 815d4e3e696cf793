use Rattle.std.proofs.Common.{refl}
use Rattle.svf_settings.proofs.texts.Keeper.first.Goals as goal

pub returns-clause-after : goal.returns-clause-after
returns-clause-after c = λ more. record { behind = c.first.ensures more; fine = refl; steps_are = rw c.new-2.ensures.steps refl; periods_are = c.new-2.ensures.periods }
