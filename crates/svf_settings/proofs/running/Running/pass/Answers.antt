use Rattle.std.proofs.Common.{◌∙◌, ap}
use Rattle.scan_vectors.specs.Fields.{Fields}
use Rattle.svf_settings.specs.Running.{with_scan}
use Rattle.svf_settings.specs.Held.{settings_in}
use Rattle.svf_settings.proofs.running.Running.pass.Goals as goal

pub returns-in-Scan-clause-step : goal.returns-in-Scan-clause-step
returns-in-Scan-clause-step c = λ all alike stands.
    let i = c.in-Scan in
    rw i.is (c.scan_step-made.ensures all i.len i.tdi i.tdo i.mask i.smask (c.in_force-part.ensures all alike i.smask (rw i.is at stands)))

pub returns-in-Scan-clause-next : goal.returns-in-Scan-clause-next
returns-in-Scan-clause-next c = λ all alike stands.
    let i = c.in-Scan in
    rw i.is (c.put_scan.ensures all
    ∙ ap (λ (f : Fields). with_scan i.which f (settings_in all c.args.self.now)) (c.in_force-part.ensures all alike i.smask (rw i.is at stands)))

pub returns-in-States-clause-step : goal.returns-in-States-clause-step
returns-in-States-clause-step c = λ all alike stands.
    let made = rw c.as_slice.ensures.value at (c.path_step.ensures all (settings_in all c.args.self.now)) in
    rw c.in-States.is (made (rw c.in-States.is at stands))
