use Rattle.board_chips.proofs.driving.enter_slot.Goals as goal

pub returns-clause-slots : goal.returns-clause-slots
returns-clause-slots c = λ n es h s. c.fill.ensures.slots n es s
