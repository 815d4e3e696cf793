use Rattle.std.proofs.Common.{◌≡◌, ◌/◌, true, ap, sym, ◌∙◌}
use Rattle.byte_streams.proofs.Fronts.{WritesAll-is}
use Rattle.play_drawing.specs.declared.marks.Marks.{Marks}
use Rattle.play_drawing.specs.Pens.{Pen}
use Rattle.play_drawing.specs.Settled.{ticked, ticked_high, ticked_low, ticks}
use Rattle.play_drawing.proofs.Settled.{settled_pen, settled_text}
use Rattle.play_drawing.proofs.Strokes.{pen}
use Rattle.play_drawing.proofs.drawing.Drawing.rest.Goals as goal

pub returns-clause-writes : goal.returns-clause-writes
returns-clause-writes g c = λ cycle settled.
    let period = c.args.period in
    let was = c.self.inside.marks in
    let p = c.args.self.now in
    let low : c.ticked-low.result ≡ ticked_low period was = c.ticked-low.ensures in
    let high : c.ticked-high.result ≡ ticked_high period was = c.ticked-high.ensures ∙ ap (ticked true (period / 2)) low in
    WritesAll-is
    ((λ i. ticks was (low i) (high i))
    ∙ ap (λ (q : Pen). ticks q.marks (ticked_low period q.marks) (ticked_high period q.marks)) c.self.view_is
    ∙ sym (settled_text period cycle p settled))
    c.write_ticks-written.ensures

pub returns-clause-pen : goal.returns-clause-pen
returns-clause-pen g c = λ cycle settled.
    let period = c.args.period in
    let was = c.self.inside.marks in
    let low : c.ticked-low.result ≡ ticked_low period was = c.ticked-low.ensures in
    let high : c.ticked-high.result ≡ ticked_high period was = c.ticked-high.ensures ∙ ap (ticked true (period / 2)) low in
    ap (λ (m : Marks). pen c.self.inside.extras m c.self.inside.ahead) high
    ∙ ap (λ (q : Pen). pen q.extras (ticked_high period q.marks) q.board) c.self.view_is
    ∙ settled_pen period cycle c.args.self.now settled
