use Rattle.std.proofs.Common.{◌≡◌, refl, sym, ◌∙◌}
use Rattle.svf_programs.specs.Sizes.{program_of}
use Rattle.board_plan.specs.View.{wiring}
use Rattle.board_faults.specs.Made.{board_of}
use Rattle.play_model.specs.Play.{play}
use Rattle.play_coverage.proofs.VerdictLines.{passed, verdict_lost}
use Rattle.play_coverage.proofs.covering.write_cover.Goals as goal

pub returns-in-Pass : goal.returns-in-Pass
returns-in-Pass g c =
    let is : c.in_ok-ending.ending ≡ (play (program_of c.args.program.now) (board_of (wiring c.args.plan.now))).ending = c.in_ok-ending.ensures in
    passed g.W.Write.contents c.args.out.now c.write_faults.new.out (program_of c.args.program.now) (wiring c.args.plan.now) c.args.listed c.write_faults.result
    (sym c.in-Pass.is ∙ is) c.write_faults.ensures

pub returns-in_err-write_verdict-in_default : goal.returns-in_err-write_verdict-in_default
returns-in_err-write_verdict-in_default g c =
    let is : c.in_ok-ending.ending ≡ (play (program_of c.args.program.now) (board_of (wiring c.args.plan.now))).ending = c.in_ok-ending.ensures in
    verdict_lost g.W.Write.contents c.args.out.now c.write_verdict.new.out (program_of c.args.program.now) (wiring c.args.plan.now) c.args.listed c.in_ok-ending.ending _
    c.from_residual-in_err-write_verdict-in_default.result (λ h. c.in_default.not-Pass (cc (c.in_default.ending-is, h))) is c.in_err-write_verdict-in_default.ensures refl
    c.from_residual-in_err-write_verdict-in_default.ensures.1
