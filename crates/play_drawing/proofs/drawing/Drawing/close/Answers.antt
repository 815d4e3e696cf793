use Rattle.std.proofs.Common.{ap, ◌∙◌}
use Rattle.byte_streams.proofs.Fronts.{WritesAll-is}
use Rattle.board_model.specs.Chain.{BoardState}
use Rattle.play_drawing.specs.Waves.{closing, closing_of}
use Rattle.play_drawing.proofs.drawing.Drawing.close.Goals as goal

pub returns : goal.returns
returns g c =
    WritesAll-is
    (ap (closing_of c.self.inside.marks) (c.tck.ensures ∙ ap (λ (b : BoardState). b.tck) c.snapshot.ensures) ∙ ap closing c.self.view_is)
    c.write_closing.ensures
