use Rattle.std.proofs.Common.{◌≡◌, drop}
use Rattle.board_model.specs.Resting.{IsAtRest}
use Rattle.board_model.specs.Whole.{AtRest, along}
use Rattle.jt_board.proofs.board.Board.along.Given as goal

-- where the board rests now, the states that are left lead where all of them lead from where it rested
abbrev pub invariant-loop-state : goal.invariant-loop-state
invariant-loop-state l = (m : AtRest) → IsAtRest l.initial.self m
    → (n : AtRest) × IsAtRest l.self n × (along (drop l.state-index l.path) n ≡ along l.path m)
