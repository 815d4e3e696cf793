use Rattle.std.proofs.Common.{◌++◌, take, sym, ap, ◌∙◌}
use Rattle.svf_programs.specs.Seen as seen
use Rattle.play_explained.specs.Explaining.{step_explained}
use Rattle.play_explained.proofs.Explanations.{keep_none}
use Rattle.play_explained.proofs.explaining.explain_step.Goals as goal

-- ---- a step that is no scan explains nothing

pub returns-in-Go-clause-explained : goal.returns-in-Go-clause-explained
returns-in-Go-clause-explained c = λ m is.
    let old = c.args.list.now.items in
    sym (ap (λ a. take c.args.most (old ++ step_explained (record { number = c.args.step.now.number; what = seen.step a }) m)) c.in-Go.is
    ∙ keep_none c.args.most old c.requires.listed)

pub returns-in-Path-clause-explained : goal.returns-in-Path-clause-explained
returns-in-Path-clause-explained c = λ m is.
    let old = c.args.list.now.items in
    sym (ap (λ a. take c.args.most (old ++ step_explained (record { number = c.args.step.now.number; what = seen.step a }) m)) c.in-Path.is
    ∙ keep_none c.args.most old c.requires.listed)

pub returns-in-Run-clause-explained : goal.returns-in-Run-clause-explained
returns-in-Run-clause-explained c = λ m is.
    let old = c.args.list.now.items in
    sym (ap (λ a. take c.args.most (old ++ step_explained (record { number = c.args.step.now.number; what = seen.step a }) m)) c.in-Run.is
    ∙ keep_none c.args.most old c.requires.listed)

pub returns-in-Trst-clause-explained : goal.returns-in-Trst-clause-explained
returns-in-Trst-clause-explained c = λ m is.
    let old = c.args.list.now.items in
    sym (ap (λ a. take c.args.most (old ++ step_explained (record { number = c.args.step.now.number; what = seen.step a }) m)) c.in-Trst.is
    ∙ keep_none c.args.most old c.requires.listed)
