use Rattle.std.proofs.Common.{◌≡◌, List, length, sym, ap, subst, ◌∙◌}
use Rattle.scan_vectors.specs.declared.failures.Mismatch.{Mismatch}
use Rattle.scan_vectors.specs.Failures.{Found, found}
use Rattle.svf_programs.specs.Sizes.{program_of}
use Rattle.board_plan.specs.View.{wiring}
use Rattle.board_faults.specs.Judging.{wiring_with}
use Rattle.board_faults.specs.Made.{board_of}
use Rattle.play_direct.specs.ToTheEnd.{all_failures}
use Rattle.fault_serving.specs.Firsts.{HasOther}
use Rattle.play_diagnosis.specs.Fitting.{Gives}
use Rattle.play_diagnosis.specs.Reading.{Verdict, verdict_of}
use Rattle.play_diagnosis.proofs.Listing.{gives_no_other}
use Rattle.play_diagnosis.proofs.fitting.may_fit.Goals as goal

pub returns : goal.returns
returns c = λ fails fit.
    let program = program_of c.args.program.now in
    let board = board_of (wiring_with c.args.way (wiring c.args.plan.now)) in
    let f : Found = found c.in-All.failures in
    let whole : f.total ≡ length f.list = c.lists_all.ensures c.if-not-lists_all.false in
    gives_no_other program board f (subst (λ (v : Verdict). Gives v program board) (ap verdict_of c.in-All.is) fit.gives) whole
    (subst (λ (bits : List Mismatch). HasOther bits (all_failures program board)) c.as_slice.ensures.value (c.may_list.ensures fails))
