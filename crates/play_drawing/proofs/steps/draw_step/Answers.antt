use Rattle.std.proofs.Common.{List, refl, ap, ◌∙◌}
use Rattle.byte_streams.proofs.Fronts.{WritesAll-is, WritesAll-stopped, WritesAll-then}
use Rattle.bitbang_protocol.specs.declared.Cycle.{Cycle}
use Rattle.bitbang_protocol.specs.declared.Message.{Message}
use Rattle.bitbang.specs.StepMessages.{line_message}
use Rattle.bitbang_protocol.specs.Cycles.{closed_messages}
use Rattle.svf_programs.specs.Seen as seen
use Rattle.tck_cycles.specs.Cycles.{cycles}
use Rattle.play_drawing.specs.Drawing.{after_drawing, draw}
use Rattle.play_drawing.proofs.Runs.{on_ok_pen, then_drawn, then_pen}
use Rattle.play_drawing.proofs.steps.draw_step.Goals as goal

pub returns-in_err-draw_line-clause-writes : goal.returns-in_err-draw_line-clause-writes
returns-in_err-draw_line-clause-writes g c =
    let p = c.args.drawing.now in
    let first : List Message = line_message (seen.step c.args.step.now.what) in
    let second : List Message = closed_messages (cycles c.args.place (seen.step c.args.step.now.what)) in
    WritesAll-is (then_drawn c.args.period first second p (after_drawing c.args.period first p) refl)
    (WritesAll-stopped (draw c.args.period second (after_drawing c.args.period first p)) c.in_err-draw_line.ensures.writes refl c.from_residual.ensures.0)

pub returns-clause-writes : goal.returns-clause-writes
returns-clause-writes g c =
    let p = c.args.drawing.now in
    let q = c.draw_line.new.drawing in
    let first : List Message = line_message (seen.step c.args.step.now.what) in
    let second : List Message = closed_messages (cycles c.args.place (seen.step c.args.step.now.what)) in
    WritesAll-is (then_drawn c.args.period first second p q c.in_ok-draw_line.ensures.pen)
    (WritesAll-then c.in_ok-draw_line.ensures.writes refl
    (WritesAll-is (ap (λ (cs : List Cycle). draw c.args.period (closed_messages cs) q) (c.of.ensures.left ∙ c.of.ensures.whole)) c.draw_closed.ensures.writes))

pub returns-clause-pen : goal.returns-clause-pen
returns-clause-pen g c =
    let p = c.args.drawing.now in
    let q = c.draw_line.new.drawing in
    let first : List Message = line_message (seen.step c.args.step.now.what) in
    let second : List Message = closed_messages (cycles c.args.place (seen.step c.args.step.now.what)) in
    on_ok_pen c.draw_closed.result
    (λ at. then_pen c.args.period first second p q c.draw_closed.new.drawing c.in_ok-draw_line.ensures.pen
    (at ∙ ap (λ (cs : List Cycle). after_drawing c.args.period (closed_messages cs) q) (c.of.ensures.left ∙ c.of.ensures.whole)))
    c.draw_closed.ensures.pen
