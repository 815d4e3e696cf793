use Rattle.std.proofs.Common.{refl, true}
use Rattle.byte_streams.proofs.Fronts.{WritesAll-is, WritesAll-stopped, WritesAll-then}
use Rattle.bitbang_protocol.specs.declared.Message.{Message}
use Rattle.bitbang_protocol.specs.declared.Message.TheVariants.{Write}
use Rattle.play_drawing.specs.Drawing.{after_mark, mark}
use Rattle.play_drawing.specs.Pens.{Pen}
use Rattle.play_drawing.proofs.Cycles.{drawn_in_two, pen_in_two}
use Rattle.play_drawing.proofs.Runs.{always}
use Rattle.play_drawing.proofs.steps.draw_cycle.Goals as goal

pub returns-in_err-draw-clause-writes : goal.returns-in_err-draw-clause-writes
returns-in_err-draw-clause-writes g c =
    let p = c.args.drawing.now in
    let q : Pen = after_mark c.args.period c.level.result p in
    let high : Message = Write true c.args.cycle.tms c.args.cycle.tdi in
    WritesAll-is (drawn_in_two c.args.period c.args.cycle p q c.level.result high c.level.ensures refl refl)
    (WritesAll-stopped (mark high q) c.in_err-draw.ensures.writes refl c.from_residual.ensures.0)

pub returns-clause-writes : goal.returns-clause-writes
returns-clause-writes g c =
    WritesAll-is (drawn_in_two c.args.period c.args.cycle c.args.drawing.now c.draw.new.self c.level.result c.level-2.result c.level.ensures c.level-2.ensures c.in_ok-draw.ensures.pen)
    (WritesAll-then c.in_ok-draw.ensures.writes refl c.draw-2.ensures.writes)

pub returns-clause-pen : goal.returns-clause-pen
returns-clause-pen g c =
    always c.draw-2.result
    (pen_in_two c.args.period c.args.cycle c.args.drawing.now c.draw.new.self c.level.result c.level-2.result c.level.ensures c.level-2.ensures c.in_ok-draw.ensures.pen c.draw-2.new.self c.draw-2.ensures.pen)
