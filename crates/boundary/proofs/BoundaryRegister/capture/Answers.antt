use Rattle.std.proofs.Common.{◌≡◌, Bool, List, length, ap, subst, ◌∙◌}
use Rattle.boundary.specs.Cells.{BoundaryValue, capture_from, captured_bits}
use Rattle.boundary.specs.contracts.Boundary.{the_view}
use Rattle.boundary.proofs.CaptureLaws.{captured_by_masks}
use Rattle.boundary.proofs.BoundaryRegister.capture.Goals as goal

pub invariant_of-self : goal.invariant_of-self
invariant_of-self c =
    let kept = c.self.invariant in
    record {
      core = kept.core;
      seen = kept.seen;
      stage = c.capture_all.ensures.long ∙ kept.stage;
      update = kept.update;
      disabling = kept.disabling;
      masks = kept.masks;
      plain = kept.plain;
      reset = kept.reset;
      controls = kept.controls;
    }

pub returns-clause-stage : goal.returns-clause-stage
returns-clause-stage c =
    let i = c.self.inside in
    let kept = c.self.invariant in
    let from_update = c.takes_update-from_update.result in
    let captured : c.capture_all.new.stage ≡ captured_bits (the_view i) c.args.mode =
    captured_by_masks from_update i.device.cells i.masks.sighted i.masks.inner i.seen i.update i.core
    c.held_bits-held.result.now i.stage c.capture_all.new.stage kept.masks c.held_bits-held.ensures kept.seen kept.update
    kept.core kept.stage c.capture_all.ensures
    ∙ ap (λ (f : Bool). capture_from i.device.cells i.seen f i.update i.core) c.takes_update-from_update.ensures in
    subst (λ (b : BoundaryValue). the_view (record i { stage = c.capture_all.new.stage })
    ≡ record b { stage = captured_bits b c.args.mode }) c.self.view_is
    (ap (λ (s : List Bool). record (the_view i) { stage = s }) captured)

pub returns-clause-len : goal.returns-clause-len
returns-clause-len c = c.capture_all.ensures.long ∙ ap (λ (b : BoundaryValue). length b.stage) c.self.view_is
