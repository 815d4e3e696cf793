use Rattle.std.proofs.Common.{◌≡◌, ◌<◌, List, [], length, refl, sym, ap, ◌∙◌, arith}
use Rattle.byte_streams.proofs.Fronts.{WritesAll-is, WritesAll-stopped, WritesAll-then}
use Rattle.bitbang_protocol.specs.declared.Cycle.{Cycle}
use Rattle.bitbang_protocol.specs.declared.Message.{Message}
use Rattle.bitbang_protocol.specs.Cycles.{closed_messages}
use Rattle.tck_cycles.specs.Sources.{left}
use Rattle.play_drawing.specs.Drawing.{after_drawing, closing_messages, draw}
use Rattle.play_drawing.proofs.Runs.{always, closed_none, closed_some, messages_of, on_ok_pen, then_drawn, then_pen}
use Rattle.play_drawing.proofs.steps.draw_closed.Goals as goal

pub returns-then-left-eq0-clause-writes : goal.returns-then-left-eq0-clause-writes
returns-then-left-eq0-clause-writes g c =
    let none : closed_messages (left c.args.source) ≡ [] = closed_none (left c.args.source) (sym c.left.ensures ∙ c.if-left-eq0.true) in
    WritesAll-is (sym (ap (λ (ms : List Message). draw c.args.period ms c.args.drawing.now) none)) c.put_all.ensures.writes

pub returns-then-left-eq0-clause-pen : goal.returns-then-left-eq0-clause-pen
returns-then-left-eq0-clause-pen g c =
    let none : closed_messages (left c.args.source) ≡ [] = closed_none (left c.args.source) (sym c.left.ensures ∙ c.if-left-eq0.true) in
    always c.put_all.result (sym (ap (λ (ms : List Message). after_drawing c.args.period ms c.args.drawing.now) none))

pub returns-in_err-draw_source-clause-writes : goal.returns-in_err-draw_source-clause-writes
returns-in_err-draw_source-clause-writes g c =
    let period = c.args.period in
    let p = c.args.drawing.now in
    let cs : List Cycle = left c.args.source in
    let some : 0 < length cs = omega (arith, c.left.ensures, c.if-left-eq0.false) in
    WritesAll-is (then_drawn period (messages_of cs) closing_messages p (after_drawing period (messages_of cs) p) refl
    ∙ ap (λ (ms : List Message). draw period ms p) (closed_some cs some))
    (WritesAll-stopped (draw period closing_messages (after_drawing period (messages_of cs) p)) c.in_err-draw_source.ensures.writes refl c.from_residual.ensures.0)

pub returns-clause-writes : goal.returns-clause-writes
returns-clause-writes g c =
    let period = c.args.period in
    let p = c.args.drawing.now in
    let cs : List Cycle = left c.args.source in
    let some : 0 < length cs = omega (arith, c.left.ensures, c.if-left-eq0.false) in
    WritesAll-is (then_drawn period (messages_of cs) closing_messages p c.draw_source.new.drawing c.in_ok-draw_source.ensures.pen
    ∙ ap (λ (ms : List Message). draw period ms p) (closed_some cs some))
    (WritesAll-then c.in_ok-draw_source.ensures.writes refl c.draw_low.ensures.writes)

pub returns-clause-pen : goal.returns-clause-pen
returns-clause-pen g c =
    let period = c.args.period in
    let p = c.args.drawing.now in
    let cs : List Cycle = left c.args.source in
    let some : 0 < length cs = omega (arith, c.left.ensures, c.if-left-eq0.false) in
    on_ok_pen c.draw_low.result
    (λ at. then_pen period (messages_of cs) closing_messages p c.draw_source.new.drawing c.draw_low.new.drawing c.in_ok-draw_source.ensures.pen at
    ∙ ap (λ (ms : List Message). after_drawing period ms p) (closed_some cs some))
    c.draw_low.ensures.pen
