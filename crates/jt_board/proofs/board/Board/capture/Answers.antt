use Rattle.std.proofs.Common.{sym, ap, subst}
use Rattle.board_model.specs.Chain.{BoardState}
use Rattle.board_model.specs.Resting.{IsAtRest}
use Rattle.board_model.specs.Sound.{IsChain}
use Rattle.board_model.specs.Whole as whole
use Rattle.board_model.specs.Whole.{AtRest}
use Rattle.board_chain.specs.Chains.{ChainValue}
use Rattle.jt_board.specs.Made.{board_at}
use Rattle.jt_board.specs.contracts.board.Board.{the_view}
use Rattle.jt_board.proofs.RestLaws.{chain-captured, rests_captured}
use Rattle.jt_board.proofs.board.Board.capture.Goals as goal

pub invariant_of-self : goal.invariant_of-self
invariant_of-self c =
    let chain = c.self.inside.chain in
    subst IsChain (sym (ap (λ (v : ChainValue). v.chips) c.capture.ensures))
    (chain-captured c.args.column chain.nets chain.chips c.self.invariant)

pub returns : goal.returns
returns c =
    let s = c.self.inside in
    let chain = s.chain in
    subst (λ (b : BoardState). (m : AtRest) → IsAtRest b m
    → IsAtRest (the_view (record s { chain = c.capture.new.self })) (whole.capture c.args.column m))
    c.self.view_is
    (λ m is. subst (λ (v : ChainValue). IsAtRest (board_at s.tck v) (whole.capture c.args.column m))
    (sym c.capture.ensures) (rests_captured c.args.column s.tck chain m is))
