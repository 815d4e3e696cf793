use Rattle.std.proofs.Common.{sym, Some, None}
use Rattle.bsdl_text.specs.Left.{left}
use Rattle.bsdl_entity.specs.Entity.{file}
use Rattle.bsdl_entity.specs.GivenView.{first_unsaid}
use Rattle.bsdl_entity.specs.OutlineView.{outline}
use Rattle.bsdl.proofs.FormLaws.{form_of_large, form_of_bad_byte, form_that_is_judged, form_that_does_not_fit, stopped}
use Rattle.bsdl.proofs.form.outline_of.Goals as goal

pub returns-then-text-gt-TEXT_LIMIT : goal.returns-then-text-gt-TEXT_LIMIT
returns-then-text-gt-TEXT_LIMIT c = form_of_large c.args.text.now c.if-text-gt-TEXT_LIMIT.true

pub returns-in-Some : goal.returns-in-Some
returns-in-Some c = form_of_bad_byte c.args.text.now c.in-Some.place c.if-text-gt-TEXT_LIMIT.false (sym c.in-Some.ensures)

pub returns-in-Ok : goal.returns-in-Ok
returns-in-Ok c =
    form_that_is_judged c.args.text.now (left c.new.result) (first_unsaid c.in-Ok.found.given.items) (outline c.in-Ok.found) (left c.in-Ok.field-0-1) c.if-text-gt-TEXT_LIMIT.false (sym c.in_default.ensures) c.new.ensures c.in-Ok.ensures.writes

pub returns-in-Err-Misfit-Some : goal.returns-in-Err-Misfit-Some
returns-in-Err-Misfit-Some c =
    form_that_does_not_fit c.args.text.now (left c.new.result) (Some c.in-Err-Misfit-Some.place) c.if-text-gt-TEXT_LIMIT.false (sym c.in_default.ensures) c.new.ensures
    (stopped c.in-Err-Misfit-Some.field-0 (file (left c.new.result)) c.in-Err-Misfit-Some.field-0-0 (Some c.in-Err-Misfit-Some.place) c.in-Err-Misfit-Some.field-0-is c.in-Err-Misfit-Some.field-0-0-is c.in-Err-Misfit-Some.ensures.writes)

pub returns-in-Err-Misfit-None : goal.returns-in-Err-Misfit-None
returns-in-Err-Misfit-None c =
    form_that_does_not_fit c.args.text.now (left c.new.result) None c.if-text-gt-TEXT_LIMIT.false (sym c.in_default.ensures) c.new.ensures
    (stopped c.in-Err-Misfit-None.field-0 (file (left c.new.result)) c.in-Err-Misfit-None.field-0-0 None c.in-Err-Misfit-None.field-0-is c.in-Err-Misfit-None.field-0-0-is c.in-Err-Misfit-None.ensures.writes)
