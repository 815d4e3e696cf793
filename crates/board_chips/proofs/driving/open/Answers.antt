use Rattle.board_chips.proofs.driving.open.Goals as goal

pub returns-clause-slots : goal.returns-clause-slots
returns-clause-slots c = λ n es h s. c.fill.ensures.slots n es (c.in_ok-open_empty.ensures.slots n es h s)
