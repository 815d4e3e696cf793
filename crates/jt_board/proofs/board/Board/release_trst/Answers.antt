use Rattle.std.proofs.Common.{false, sym, ap, subst}
use Rattle.board_model.specs.Chain.{BoardState}
use Rattle.board_model.specs.Resting.{IsAtRest}
use Rattle.board_model.specs.Sound.{IsChain}
use Rattle.board_model.specs.Whole.{AtRest}
use Rattle.board_chain.specs.Chains.{ChainValue}
use Rattle.jt_board.specs.Made.{board_at}
use Rattle.jt_board.specs.contracts.board.Board.{the_view}
use Rattle.jt_board.proofs.RestLaws.{rests_released}
use Rattle.jt_board.proofs.board.Board.release_trst.Goals as goal

pub invariant_of-self : goal.invariant_of-self
invariant_of-self c = subst IsChain (sym (ap (λ (v : ChainValue). v.chips) c.tell_trst.ensures)) c.self.invariant

pub returns : goal.returns
returns c =
    let s = c.self.inside in
    subst (λ (b : BoardState). (m : AtRest) → IsAtRest b m
    → IsAtRest (the_view (record s { chain = c.tell_trst.new.self })) (record m { trst = false }))
    c.self.view_is
    (λ m is. subst (λ (v : ChainValue). IsAtRest (board_at s.tck v) (record m { trst = false }))
    (sym c.tell_trst.ensures)
    (rests_released s.tck s.chain m is))
