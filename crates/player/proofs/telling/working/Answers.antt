use Rattle.std.proofs.Common.{drop, ap, subst, arith}
use Rattle.svf_programs.specs.Seen.{numbered}
use Rattle.svf_programs.specs.Sizes.{program_of}
use Rattle.play_model.specs.Streams as stream
use Rattle.player.specs.Progress.{HasWorkLeft}
use Rattle.player.proofs.EndingLaws.{works-over, works-within}
use Rattle.player.proofs.telling.working.Goals as goal

pub returns-in-Within : goal.returns-in-Within
returns-in-Within c =
    let program = program_of c.args.program.now in
    let p = c.turn_at_work-p.result in
    let number = works-within program p c.in-Within.field-0 c.in-Within.is c.turn_at_work-p.ensures.stands (numbered c.step.result) c.step.ensures
    (subst (HasWorkLeft (drop p.at program.steps) p) c.in-Within.is c.turn_at_work-p.ensures.ready) in
    omega (arith, number, ap stream.working c.turn_at_work-p.ensures.same, c.step.type_inv)

pub returns-in-Over : goal.returns-in-Over
returns-in-Over c =
    let program = program_of c.args.program.now in
    let p = c.turn_at_work-p.result in
    let all = works-over program p c.in-Over.field-0 c.in-Over.is c.turn_at_work-p.ensures.stands in
    omega (arith, all, ap stream.working c.turn_at_work-p.ensures.same, c.statements.ensures, c.saturating_add.ensures)
