use Rattle.std.proofs.lemmas.Result.{IfOk-weaker}
use Rattle.bsdl_text.specs.Left.{left}
use Rattle.bsdl_entity.specs.Entity.{file}
use Rattle.bsdl_entity.specs.GivenView.{first_unsaid}
use Rattle.bsdl_entity.specs.OutlineView.{outline}
use Rattle.bsdl.proofs.FormLaws.{form_of_large, form_that_is_judged, form_that_does_not_fit, stopped}
use Rattle.bsdl_sizes.proofs.SpotLaws.{no_place, nothing, nothing_by_byte, told}
use Rattle.std.proofs.Common.{◌∙◌, refl, sym}
use Rattle.bsdl_sizes.proofs.sizes.spot_at_fault.Goals as goal

pub returns-then-text-gt-TEXT_LIMIT : goal.returns-then-text-gt-TEXT_LIMIT
returns-then-text-gt-TEXT_LIMIT c = nothing c.args.refused c.args.text.now _ (form_of_large c.args.text.now c.if-text-gt-TEXT_LIMIT.true)

pub returns-then-has_bad_byte : goal.returns-then-has_bad_byte
returns-then-has_bad_byte c = nothing_by_byte c.args.refused c.args.text.now c.if-text-gt-TEXT_LIMIT.false (sym c.if-has_bad_byte.true ∙ c.has_bad_byte.ensures)

pub returns-in-Ok : goal.returns-in-Ok
returns-in-Ok c =
    let form = form_that_is_judged c.args.text.now (left c.new.result) (first_unsaid c.in-Ok.outline.given.items) (outline c.in-Ok.outline) (left c.in-Ok.field-0-1)
    c.if-text-gt-TEXT_LIMIT.false (no_place _ (sym c.if-has_bad_byte.false ∙ c.has_bad_byte.ensures)) c.new.ensures c.in-Ok.ensures.writes in
    IfOk-weaker c.spot_in_entity.result _ _ (λ spot h. told c.args.refused c.args.text.now c.in-Ok.outline spot form h) c.spot_in_entity.ensures

pub returns-in-Err-Misfit : goal.returns-in-Err-Misfit
returns-in-Err-Misfit c =
    nothing c.args.refused c.args.text.now _
    (form_that_does_not_fit c.args.text.now (left c.new.result) c.in-Err-Misfit.field-0-0 c.if-text-gt-TEXT_LIMIT.false (no_place _ (sym c.if-has_bad_byte.false ∙ c.has_bad_byte.ensures)) c.new.ensures
    (stopped c.in-Err-Misfit.field-0 (file (left c.new.result)) c.in-Err-Misfit.field-0-0 c.in-Err-Misfit.field-0-0 c.in-Err-Misfit.field-0-is refl c.in-Err-Misfit.ensures.writes))
