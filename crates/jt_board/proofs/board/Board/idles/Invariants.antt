use Rattle.std.proofs.Common.{◌≡◌, drop}
use Rattle.std.specs.List.{list_all}
use Rattle.jt_board.specs.Idling.{rests}
use Rattle.jt_board.proofs.board.Board.idles.Given as goal

-- Those before device i rest.
abbrev pub invariant-loop-i : goal.invariant-loop-i
invariant-loop-i l = list_all (λ c. rests c.state c.tdo) (drop l.i l.self-inside.chain.chips) ≡ list_all (λ c. rests c.state c.tdo) l.self-inside.chain.chips
