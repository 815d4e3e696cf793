use Rattle.std.proofs.Common.{◌≡◌, subst}
use Rattle.std.specs.Prelude.{⊤, MatchOption, Err, Result}
use Rattle.std.proofs.lemmas.Result.{err_from_is_err_and}
use Rattle.bsdl_device.specs.Device.{Device}
use Rattle.bsdl_description.specs.Describing.{Refusal, described, ◌>>?◌}
use Rattle.bsdl_description.specs.View.{description, spelt}
use Rattle.bsdl.specs.Judging.{fault, device_or_refusal}
use Rattle.bsdl.specs.View.{Tells, refusal}
use Rattle.bsdl.proofs.ReadLaws.{in_steps, refused_first, told_then}
use Rattle.bsdl.proofs.reading.read_entity.Goals as goal

pub returns : goal.returns
returns c =
    let d = description c.args.entity.now c.in_ok-found.found in
    subst (Tells c.read_description.result) (in_steps (spelt c.args.entity.now) described (λ e. device_or_refusal (fault e) e))
    (told_then c.read_description.result (spelt c.args.entity.now >>? described) d (λ e. device_or_refusal (fault e) e) c.in_ok-found.ensures c.read_description.ensures)

pub returns-in_err-found : goal.returns-in_err-found
returns-in_err-found c =
    let stop = err_from_is_err_and c.from_residual.result c.from_residual.ensures.1 in
    rw (stop.1, stop.2) (subst (λ (x : Result Device Refusal). MatchOption (refusal c.in_err-found.field-0.0) ⊤ (λ r. x ≡ Err r))
    (in_steps (spelt c.args.entity.now) described (λ d. device_or_refusal (fault d) d))
    (refused_first (refusal c.in_err-found.field-0.0) (spelt c.args.entity.now >>? described) (λ d. device_or_refusal (fault d) d) c.in_err-found.ensures))
