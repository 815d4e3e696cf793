use Rattle.std.proofs.Common.{ap, ◌∙◌, sym}
use Rattle.std.specs.Prelude.{Ok}
use Rattle.std.proofs.lemmas.Result.{err_from_is_err_and}
use Rattle.bsdl_description.specs.View.{description}
use Rattle.bsdl.specs.Judging.{device_or_refusal}
use Rattle.bsdl.specs.View.{refusal}
use Rattle.bsdl.proofs.ReadLaws.{refused_last}
use Rattle.bsdl.proofs.OnceLaws.{each_cell_once}
use Rattle.bsdl.proofs.reading.read_description.Goals as goal

pub device_by_key-requires : goal.device_by_key-requires
device_by_key-requires c = record {
  keyed = c.in_ok-keyed.ensures.keyed;
  once = each_cell_once (description c.args.entity.now c.args.described.now) c.in_ok-keyed.ensures.judges;
}

pub returns : goal.returns
returns c =
    let d = description c.args.entity.now c.args.described.now in
    ap (λ o. device_or_refusal o d) c.in_ok-keyed.ensures.judges ∙ ap Ok (sym c.in_ok-device_by_key.ensures)

pub returns-in_err-keyed : goal.returns-in_err-keyed
returns-in_err-keyed c =
    let stop = err_from_is_err_and c.from_residual.result c.from_residual.ensures.1 in
    rw (stop.1, stop.2) (refused_last (refusal c.in_err-keyed.field-0.0) (description c.args.entity.now c.args.described.now) c.in_err-keyed.ensures.judges)
