use Rattle.std.proofs.Common.{drop, subst}
use Rattle.svf_programs.specs.Sizes.{program_of}
use Rattle.player.specs.declared.progress.Phase.{Phase}
use Rattle.player.specs.Progress.{HasWorkLeft}
use Rattle.player.proofs.Pieced.{gives-same}
use Rattle.player.proofs.pieces.piece_at_work.Goals as goal

pub returns-in-Opening : goal.returns-in-Opening
returns-in-Opening c = gives-same (program_of c.args.program.now) c.args.p c.turn_at_work-p.result c.args.buffer.now _ _ _ c.turn_at_work-p.ensures.same c.opening_piece.ensures

pub returns-in-Within : goal.returns-in-Within
returns-in-Within c =
    let now = c.turn_at_work-p.result in
    let rest = drop now.at c.args.program.now.steps in
    gives-same (program_of c.args.program.now) c.args.p now c.args.buffer.now _ _ _ c.turn_at_work-p.ensures.same
    (c.step_piece.ensures.gives (λ _. subst (λ (phase : Phase). HasWorkLeft rest now phase) c.in-Within.is c.turn_at_work-p.ensures.ready))

pub returns-in-Over : goal.returns-in-Over
returns-in-Over c = gives-same (program_of c.args.program.now) c.args.p c.turn_at_work-p.result c.args.buffer.now _ _ _ c.turn_at_work-p.ensures.same c.quit_piece.ensures
