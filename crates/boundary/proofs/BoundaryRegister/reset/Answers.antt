use Rattle.std.proofs.Common.{◌≡◌, Bool, List, ap, subst, ◌∙◌}
use Rattle.boundary.specs.Cells.{BoundaryValue, at_reset}
use Rattle.boundary.specs.contracts.Boundary.{the_view}
use Rattle.boundary.proofs.ResetLaws.{reset_by_mask}
use Rattle.boundary.proofs.BoundaryRegister.reset.Goals as goal

pub invariant_of-self : goal.invariant_of-self
invariant_of-self c =
    let kept = c.self.invariant in
    record {
      core = kept.core;
      seen = kept.seen;
      stage = kept.stage;
      disabling = kept.disabling;
      masks = kept.masks;
      plain = kept.plain;
      reset = kept.reset;
      controls = kept.controls;
      update = c.reset_all.ensures.long ∙ kept.update;
    }

pub returns : goal.returns
returns c =
    let i = c.self.inside in
    let kept = c.self.invariant in
    let reset : c.reset_all.new.update ≡ at_reset (the_view i) =
    reset_by_mask i.device.cells i.masks.reset i.disabling i.update c.reset_all.new.update kept.reset kept.disabling kept.update
    c.reset_all.ensures in
    subst (λ (b : BoundaryValue). the_view (record i { update = c.reset_all.new.update }) ≡ record b { update = at_reset b })
    c.self.view_is (ap (λ (u : List Bool). record (the_view i) { update = u }) reset)
