use Rattle.std.proofs.Common.{sym, ap, subst}
use Rattle.board_model.specs.Chain.{BoardState}
use Rattle.board_model.specs.Resting.{IsAtRest}
use Rattle.board_model.specs.Sound.{IsChain}
use Rattle.board_model.specs.Whole.{AtRest, trst_asserted}
use Rattle.board_chain.specs.Chains.{ChainValue}
use Rattle.jt_board.specs.Made.{board_at}
use Rattle.jt_board.specs.contracts.board.Board.{the_view}
use Rattle.jt_board.proofs.RestLaws.{chain-asserted, rests_asserted}
use Rattle.jt_board.proofs.board.Board.assert_trst.Goals as goal

pub invariant_of-self : goal.invariant_of-self
invariant_of-self c =
    subst IsChain (sym (ap (λ (v : ChainValue). v.chips) c.assert_trst.ensures))
    (chain-asserted c.place-place.result c.self.inside.chain.chips c.self.invariant)

pub returns : goal.returns
returns c =
    let s = c.self.inside in
    subst (λ (b : BoardState). (m : AtRest) → IsAtRest b m
    → IsAtRest (the_view (record s { chain = c.assert_trst.new.self })) (trst_asserted m))
    c.self.view_is
    (λ m is. subst (λ (v : ChainValue). IsAtRest (board_at s.tck v) (trst_asserted m)) (sym c.assert_trst.ensures)
    (rests_asserted c.place-place.result s.tck s.chain m is
    (c.place-place.ensures m (subst (λ (b : BoardState). IsAtRest b m) c.self.view_is is))))
