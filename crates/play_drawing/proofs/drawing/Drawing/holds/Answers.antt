use Rattle.std.proofs.Common.{ap, ◌∙◌}
use Rattle.play_drawing.specs.Holding.{is_held_by}
use Rattle.play_drawing.proofs.drawing.Drawing.holds.Goals as goal

pub returns : goal.returns
returns c = c.is_held_by.ensures ∙ ap (is_held_by c.args.cycle) c.self.view_is
