use Rattle.std.proofs.Common.{Some, subst}
use Rattle.svf_programs.specs.Sizes.{program_of}
use Rattle.board_plan.specs.View.{wiring}
use Rattle.play_model.specs.declared.ending.Ending.{Ending}
use Rattle.fault_serving.specs.Serving.{IsToldOf}
use Rattle.fault_serving.proofs.OnePlay.{told_other}
use Rattle.play_coverage.proofs.Passing.{told_passed}
use Rattle.play_coverage.proofs.judging.verdict_of.Goals as goal

pub returns-in_ok-passed_verdict-in-Pass-clause-judged : goal.returns-in_ok-passed_verdict-in-Pass-clause-judged
returns-in_ok-passed_verdict-in-Pass-clause-judged c =
    let program = program_of c.args.program.now in
    let w = wiring c.args.plan.now in
    told_passed program w c.args.way c.in_ok-passed_verdict-in-Pass.field-0
    (subst (λ (e : Ending). IsToldOf program w c.args.way (Some e)) c.in-Pass.is (subst (IsToldOf program w c.args.way) c.in-Some.is c.requires.told))
    c.in_ok-passed_verdict-in-Pass.ensures

pub returns-in_default-clause-judged : goal.returns-in_default-clause-judged
returns-in_default-clause-judged c =
    let program = program_of c.args.program.now in
    let w = wiring c.args.plan.now in
    told_other program c.len.ensures.sound.legal w c.requires.may c.args.way c.in-Some.ending
    (subst (IsToldOf program w c.args.way) c.in-Some.is c.requires.told) c.in_default.not-Pass
