use Rattle.std.proofs.Common.{◌&&◌, ap, ◌∙◌}
use Rattle.std.specs.List.{list_all}
use Rattle.play_drawing.specs.Holding.{stays}
use Rattle.play_drawing.specs.Pens.{Pen}
use Rattle.play_drawing.proofs.drawing.Drawing.is_left.Goals as goal

pub returns : goal.returns
returns c =
    c.is_left.ensures ∙ ap (λ (p : Pen). p.board.tck && list_all (stays p.board.trst c.args.tms) p.board.chips) c.self.view_is
