use Rattle.std.proofs.Common.{sym, ap, ◌∙◌, arith}
use Rattle.scan_vectors.specs.Failures.{found, with_found}
use Rattle.scan_vectors.proofs.Listing.{found-none}
use Rattle.svf_programs.specs.Seen as seen
use Rattle.play_model.specs.PlayingOn.{step_failures}
use Rattle.play_direct.proofs.stepping.play_step.Goals as goal

-- ---- a step that is no scan notes nothing

pub returns-in-Go-clause-noted : goal.returns-in-Go-clause-noted
returns-in-Go-clause-noted c = λ m is.
    let old = found c.args.failures.now in
    sym (ap (λ a. with_found (step_failures (record { number = c.args.step.now.number; what = seen.step a }) m) old) c.in-Go.is
    ∙ found-none old (omega (arith, c.len.ensures)))

pub returns-in-Path-clause-noted : goal.returns-in-Path-clause-noted
returns-in-Path-clause-noted c = λ m is.
    let old = found c.args.failures.now in
    sym (ap (λ a. with_found (step_failures (record { number = c.args.step.now.number; what = seen.step a }) m) old) c.in-Path.is
    ∙ found-none old (omega (arith, c.len.ensures)))

pub returns-in-Run-clause-noted : goal.returns-in-Run-clause-noted
returns-in-Run-clause-noted c = λ m is.
    let old = found c.args.failures.now in
    sym (ap (λ a. with_found (step_failures (record { number = c.args.step.now.number; what = seen.step a }) m) old) c.in-Run.is
    ∙ found-none old (omega (arith, c.len.ensures)))

pub returns-in-Trst-clause-noted : goal.returns-in-Trst-clause-noted
returns-in-Trst-clause-noted c = λ m is.
    let old = found c.args.failures.now in
    sym (ap (λ a. with_found (step_failures (record { number = c.args.step.now.number; what = seen.step a }) m) old) c.in-Trst.is
    ∙ found-none old (omega (arith, c.len.ensures)))
