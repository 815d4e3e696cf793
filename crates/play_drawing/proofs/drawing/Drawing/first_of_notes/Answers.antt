use Rattle.std.proofs.Common.{length, ap, ◌∙◌, List, arith}
use Rattle.pin_nets.specs.Wired.{Net}
use Rattle.board_model.specs.Chain.{ChipState}
use Rattle.wave_files.specs.Values.{first_of_notes}
use Rattle.play_drawing.specs.Pens.{Pen}
use Rattle.play_drawing.proofs.drawing.Drawing.first_of_notes.Goals as goal

pub first_of_notes-requires-clause-few : goal.first_of_notes-requires-clause-few
first_of_notes-requires-clause-few c = omega (arith, c.self.invariant.1, ap (λ (cs : List ChipState). length cs) c.chain.ensures.chips)

pub first_of_notes-requires-clause-few_nets : goal.first_of_notes-requires-clause-few_nets
first_of_notes-requires-clause-few_nets c = omega (arith, c.self.invariant.2, ap (λ (ns : List Net). length ns) c.chain.ensures.nets)

pub returns-clause-number : goal.returns-clause-number
returns-clause-number c =
    c.first_of_notes.ensures.number
    ∙ (λ i. first_of_notes (c.chain.ensures.chips i) (c.chain.ensures.nets i))
    ∙ ap (λ (p : Pen). first_of_notes p.board.chips p.board.nets) c.self.view_is
