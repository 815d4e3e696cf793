use Rattle.std.proofs.Common.{sym, ap, subst}
use Rattle.board_model.specs.Chain.{BoardState}
use Rattle.board_model.specs.Resting.{IsAtRest}
use Rattle.board_model.specs.Sound.{IsChain}
use Rattle.board_model.specs.Whole as whole
use Rattle.board_model.specs.Whole.{AtRest}
use Rattle.board_chain.specs.Chains.{ChainValue}
use Rattle.jt_board.specs.Made.{board_at}
use Rattle.jt_board.specs.contracts.board.Board.{the_view}
use Rattle.jt_board.proofs.RestLaws.{chain-updated, rests_updated}
use Rattle.jt_board.proofs.board.Board.update.Goals as goal

pub invariant_of-self : goal.invariant_of-self
invariant_of-self c =
    let chain = c.self.inside.chain in
    subst IsChain (sym (ap (λ (v : ChainValue). v.chips) c.update.ensures))
    (chain-updated c.args.column chain.chips c.self.invariant)

pub returns : goal.returns
returns c =
    let s = c.self.inside in
    let chain = s.chain in
    subst (λ (b : BoardState). (m : AtRest) → IsAtRest b m
    → IsAtRest (the_view (record s { chain = c.update.new.self })) (whole.update c.args.column m))
    c.self.view_is
    (λ m is. subst (λ (v : ChainValue). IsAtRest (board_at s.tck v) (whole.update c.args.column m))
    (sym c.update.ensures) (rests_updated c.args.column s.tck chain m is))
