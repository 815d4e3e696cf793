use Rattle.std.proofs.Common.{ap}
use Rattle.play_drawing.specs.Pens.{Pen}
use Rattle.play_drawing.proofs.drawing.Drawing.time.Goals as goal

pub returns : goal.returns
returns c = ap (λ (p : Pen). p.marks.time) c.self.view_is
