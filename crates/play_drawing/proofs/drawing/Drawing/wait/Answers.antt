use Rattle.std.proofs.Common.{◌*◌, ℕ, ap, ◌∙◌}
use Rattle.play_drawing.specs.Drawing.{lasting, later}
use Rattle.play_drawing.proofs.Strokes.{later_most, pen}
use Rattle.play_drawing.proofs.drawing.Drawing.wait.Goals as goal

pub returns : goal.returns
returns c =
    let s = c.self.inside in
    let n = c.args.periods * c.args.period in
    ap (λ (t : ℕ). pen s.extras (record s.marks { time = t }) s.ahead)
    (c.time_after-self-inside.ensures ∙ ap (later s.marks.time) c.saturating_mul.ensures ∙ later_most s.marks.time n)
    ∙ ap (lasting n) c.self.view_is
