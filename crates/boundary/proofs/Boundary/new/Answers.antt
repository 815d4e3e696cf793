use Rattle.std.proofs.Common.{◌≡◌, Bool, false, List, length, sym, ap, subst, ◌∙◌}
use Rattle.std.proofs.lemmas.List.{length-replicate}
use Rattle.bsdl_device.specs.Device.{Device}
use Rattle.bsdl_device.specs.declared.Cell.{Cell}
use Rattle.boundary.specs.Cells.{AreDisabling, reset_from}
use Rattle.boundary.specs.Controls.{AreGroups}
use Rattle.boundary.specs.Masks.{AreMasks}
use Rattle.boundary.specs.Plain.{plain_cells}
use Rattle.boundary.specs.Resets.{reset_cells}
use Rattle.chip_registers.specs.Registers.{zeros}
use Rattle.boundary.proofs.ResetLaws.{reset_by_mask}
use Rattle.boundary.proofs.Boundary.new.Goals as goal

by_views : {cells seen : List Cell} {bits kept : List Bool} → cells ≡ seen → bits ≡ kept → AreDisabling cells bits → AreDisabling seen kept
by_views {cells} {seen} {bits} {kept} e d h = subst (λ (b : List Bool). AreDisabling seen b) d (subst (λ (l : List Cell). AreDisabling l bits) e h)

pub invariant_of-result-2 : goal.invariant_of-result-2
invariant_of-result-2 c =
    let cells = c.requires ∙ sym (ap (λ (d : Device). length d.cells) (c.device.view_is ∙ c.in_ok-device.ensures)) in
    let masked = c.cells.ensures ∙ ap (λ (d : Device). d.cells) (c.get.ensures ∙ sym c.device.view_is) in
    record {
      core = ap length c.in_ok-try_clone.ensures ∙ cells;
      seen = ap length c.in_ok-seen.ensures ∙ length-replicate (length c.cells-3.result.now) false
          ∙ ap length (c.cells-3.ensures ∙ ap (λ (d : Device). d.cells) (c.get-3.ensures ∙ sym c.device.view_is));
      disabling = by_views (c.cells-2.ensures ∙ ap (λ (d : Device). d.cells) (c.get-2.ensures ∙ sym c.device.view_is)) (sym c.disabling.view_is) c.in_ok-disabling.ensures;
      masks = subst (λ (l : List Cell). AreMasks l c.in_ok-masks.masks.sighted c.in_ok-masks.masks.inner) masked c.in_ok-masks.ensures.masks;
      plain = c.in_ok-masks.ensures.plain ∙ ap plain_cells masked;
      reset = c.in_ok-masks.ensures.reset ∙ ap reset_cells masked;
      controls = subst (λ (l : List Cell). AreGroups l c.in_ok-controls.controls.groups.items)
          (c.cells-4.ensures ∙ ap (λ (d : Device). d.cells) (c.get-4.ensures ∙ sym c.device.view_is)) c.in_ok-controls.ensures;
      stage = ap length c.in_ok-stage.ensures ∙ length-replicate c.len-2.result false ∙ c.len-2.ensures ∙ cells;
      update = c.reset_all.ensures.long ∙ ap length c.in_ok-update.ensures ∙ length-replicate c.len.result false ∙ c.len.ensures ∙ cells;
    }

pub returns : goal.returns
returns c =
    let all = c.args.device.now.cells in
    let cells_are : c.device.inside.device.value.cells ≡ all = ap (λ (d : Device). d.cells) (c.device.view_is ∙ c.in_ok-device.ensures) in
    let update_is : c.reset_all.new.update ≡ reset_from all 0 all (zeros (length all)) =
    reset_by_mask all c.in_ok-masks.masks.reset c.in_ok-disabling.disabling c.in_ok-update.update c.reset_all.new.update
    (c.in_ok-masks.ensures.reset ∙ ap reset_cells (c.cells.ensures ∙ ap (λ (d : Device). d.cells) (c.get.ensures ∙ c.in_ok-device.ensures)))
    (subst (λ (l : List Cell). AreDisabling l c.in_ok-disabling.disabling)
    (c.cells-2.ensures ∙ ap (λ (d : Device). d.cells) (c.get-2.ensures ∙ c.in_ok-device.ensures)) c.in_ok-disabling.ensures)
    (ap length c.in_ok-update.ensures ∙ length-replicate c.len.result false ∙ c.len.ensures ∙ c.requires) c.reset_all.ensures
    ∙ ap (reset_from all 0 all) (c.in_ok-update.ensures ∙ ap zeros (c.len.ensures ∙ c.requires)) in
    λ k. record {
      cells = cells_are k;
      core = c.in_ok-try_clone.ensures k;
      extest_update = c.args.extest_update;
      seen = (c.in_ok-seen.ensures ∙ ap (λ (l : List Cell). zeros (length l))
          (c.cells-3.ensures ∙ ap (λ (d : Device). d.cells) (c.get-3.ensures ∙ c.in_ok-device.ensures))) k;
      stage = (c.in_ok-stage.ensures ∙ ap zeros (c.len-2.ensures ∙ c.requires)) k;
      update = update_is k;
    }
