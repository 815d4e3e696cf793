use Rattle.std.proofs.Common.{true, ap, ◌∙◌}
use Rattle.board_model.specs.Chain.{tdi_before}
use Rattle.play_drawing.specs.Judging.{tdo_of}
use Rattle.play_drawing.proofs.drawing.Drawing.tdo.Goals as goal

pub returns : goal.returns
returns c = c.tdo.ensures ∙ ap (tdi_before true) c.chain.ensures.chips ∙ ap tdo_of c.self.view_is
