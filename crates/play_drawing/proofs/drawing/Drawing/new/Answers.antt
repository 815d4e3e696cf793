use Rattle.std.proofs.Common.{length, ap, ◌∙◌, arith}
use Rattle.board_model.specs.Chain.{BoardState}
use Rattle.play_drawing.proofs.Strokes.{begins}
use Rattle.play_drawing.proofs.drawing.Drawing.new.Goals as goal

pub invariant_of-result : goal.invariant_of-result
invariant_of-result c = (
  c.requires.same,
  omega (arith, c.devices.ensures.count, c.devices.ensures.most),
  omega (arith, c.requires.few_nets, ap (λ (b : BoardState). length b.nets) c.requires.same),
)

pub returns : goal.returns
returns c =
    begins c.args.extras c.args.ahead c.args.behind c.tck.result c.requires.same (c.tck.ensures ∙ ap (λ (b : BoardState). b.tck) c.snapshot.ensures)
