use Rattle.std.proofs.Common.{subst, sym}
use Rattle.std.specs.Prelude.{Result}
use Rattle.std.proofs.lemmas.Result.{err_from_is_err_and}
use Rattle.bsdl_description.specs.Describing.{Refusal, ◌>>?◌}
use Rattle.bsdl_entity.specs.Entity.{File}
use Rattle.bsdl.specs.Form.{text_form}
use Rattle.bsdl.specs.Judging.{file_says}
use Rattle.bsdl.specs.View.{Tells, refusal}
use Rattle.bsdl.proofs.ReadLaws.{refused_first}
use Rattle.bsdl.proofs.reading.read.Goals as goal

pub returns : goal.returns
returns c = subst (λ (x : Result File Refusal). Tells c.read_entity.result (x >>? file_says)) (sym c.in_ok-found.ensures) c.read_entity.ensures

pub returns-in_err-found : goal.returns-in_err-found
returns-in_err-found c =
    let stop = err_from_is_err_and c.from_residual.result c.from_residual.ensures.1 in
    rw (stop.1, stop.2) (refused_first (refusal c.in_err-found.field-0.0) (text_form c.args.text.now) file_says c.in_err-found.ensures)
