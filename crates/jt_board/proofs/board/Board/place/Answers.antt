use Rattle.std.proofs.Common.{◌≡◌, ◌∙◌, subst}
use Rattle.board_model.specs.Chain.{BoardState}
use Rattle.board_model.specs.Resting.{IsAtRest}
use Rattle.board_model.specs.Whole.{AtRest}
use Rattle.jt_board.specs.contracts.board.Board.{the_view}
use Rattle.jt_board.proofs.RestLaws.{rests_place}
use Rattle.jt_board.proofs.board.Board.place.Goals as goal

pub returns : goal.returns
returns c =
    subst (λ (b : BoardState). (m : AtRest) → IsAtRest b m → c.state.result ≡ m.place) c.self.view_is
    (λ m is. c.state.ensures ∙ rests_place (the_view c.self.inside) m 0 _ is c.chip.ensures)
