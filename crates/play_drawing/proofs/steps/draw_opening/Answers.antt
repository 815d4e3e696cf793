use Rattle.std.proofs.Common.{◌++◌, List, refl, false}
use Rattle.byte_streams.proofs.Fronts.{WritesAll-is, WritesAll-stopped, WritesAll-then}
use Rattle.bitbang_protocol.specs.declared.Message.{Message}
use Rattle.play_drawing.specs.Drawing.{after_drawing, closing_messages, draw, opening_cycles, trst_message}
use Rattle.play_drawing.proofs.Runs.{messages_of, on_ok_pen, then_drawn, then_pen}
use Rattle.play_drawing.proofs.steps.draw_opening.Goals as goal

-- the pieces of an opening
abbrev line : List Message
line = trst_message false

abbrev resets : List Message
resets = messages_of opening_cycles

abbrev behind_line : List Message
behind_line = resets ++ closing_messages

pub returns-in_err-draw_trst-clause-writes : goal.returns-in_err-draw_trst-clause-writes
returns-in_err-draw_trst-clause-writes g c =
    let period = c.args.period in
    let p = c.args.drawing.now in
    WritesAll-is (then_drawn period line behind_line p (after_drawing period line p) refl)
    (WritesAll-stopped (draw period behind_line (after_drawing period line p)) c.in_err-draw_trst.ensures.writes refl c.from_residual.ensures.0)

pub returns-in_err-draw_resets-clause-writes : goal.returns-in_err-draw_resets-clause-writes
returns-in_err-draw_resets-clause-writes g c =
    let period = c.args.period in
    let p = c.args.drawing.now in
    let q = c.draw_trst.new.drawing in
    WritesAll-is (then_drawn period line behind_line p q c.in_ok-draw_trst.ensures.pen)
    (WritesAll-then c.in_ok-draw_trst.ensures.writes refl
    (WritesAll-is (then_drawn period resets closing_messages q (after_drawing period resets q) refl)
    (WritesAll-stopped (draw period closing_messages (after_drawing period resets q)) c.in_err-draw_resets.ensures.writes refl
    c.from_residual-in_err-draw_resets.ensures.0)))

pub returns-clause-writes : goal.returns-clause-writes
returns-clause-writes g c =
    let period = c.args.period in
    let p = c.args.drawing.now in
    let q = c.draw_trst.new.drawing in
    let r = c.draw_resets.new.drawing in
    WritesAll-is (then_drawn period line behind_line p q c.in_ok-draw_trst.ensures.pen)
    (WritesAll-then c.in_ok-draw_trst.ensures.writes refl
    (WritesAll-is (then_drawn period resets closing_messages q r c.in_ok-draw_resets.ensures.pen)
    (WritesAll-then c.in_ok-draw_resets.ensures.writes refl c.draw_low.ensures.writes)))

pub returns-clause-pen : goal.returns-clause-pen
returns-clause-pen g c =
    let period = c.args.period in
    let p = c.args.drawing.now in
    let q = c.draw_trst.new.drawing in
    let r = c.draw_resets.new.drawing in
    let end = c.draw_low.new.drawing in
    on_ok_pen c.draw_low.result
    (λ at. then_pen period line behind_line p q end c.in_ok-draw_trst.ensures.pen
    (then_pen period resets closing_messages q r end c.in_ok-draw_resets.ensures.pen at))
    c.draw_low.ensures.pen
