use Rattle.std.proofs.Common.{length, ap, ◌∙◌, List, arith}
use Rattle.pin_nets.specs.Wired.{Net}
use Rattle.board_model.specs.Chain.{ChipState}
use Rattle.play_drawing.specs.Pens.{Pen}
use Rattle.play_drawing.proofs.drawing.Drawing.chain.Goals as goal

pub returns-clause-chips : goal.returns-clause-chips
returns-clause-chips c = c.chain.ensures.chips ∙ ap (λ (p : Pen). p.board.chips) c.self.view_is

pub returns-clause-nets : goal.returns-clause-nets
returns-clause-nets c = c.chain.ensures.nets ∙ ap (λ (p : Pen). p.board.nets) c.self.view_is

pub returns-clause-few : goal.returns-clause-few
returns-clause-few c = omega (arith, c.self.invariant.1, ap (λ (cs : List ChipState). length cs) c.chain.ensures.chips)

pub returns-clause-few_nets : goal.returns-clause-few_nets
returns-clause-few_nets c = omega (arith, c.self.invariant.2, ap (λ (ns : List Net). length ns) c.chain.ensures.nets)
