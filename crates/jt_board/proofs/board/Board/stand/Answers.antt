use Rattle.std.proofs.Common.{sym, ap, subst}
use Rattle.board_model.specs.Chain.{BoardState}
use Rattle.board_model.specs.Resting.{IsAtRest}
use Rattle.board_model.specs.Sound.{IsChain}
use Rattle.board_model.specs.Whole.{AtRest}
use Rattle.board_chain.specs.Chains.{ChainValue}
use Rattle.jt_board.specs.Made.{board_at}
use Rattle.jt_board.specs.contracts.board.Board.{the_view}
use Rattle.jt_board.proofs.RestLaws.{chain-stands, rests_standing}
use Rattle.jt_board.proofs.board.Board.stand.Goals as goal

pub invariant_of-self : goal.invariant_of-self
invariant_of-self c =
    let chain = c.self.inside.chain in
    subst IsChain (sym (ap (λ (v : ChainValue). v.chips) c.stand.ensures))
    (chain-stands c.args.state chain.chips c.self.invariant)

pub returns : goal.returns
returns c =
    let s = c.self.inside in
    let chain = s.chain in
    subst (λ (b : BoardState). (m : AtRest) → IsAtRest b m
    → IsAtRest (the_view (record s { chain = c.stand.new.self })) (record m { place = c.args.state }))
    c.self.view_is
    (λ m is. subst (λ (v : ChainValue). IsAtRest (board_at s.tck v) (record m { place = c.args.state }))
    (sym c.stand.ensures) (rests_standing c.args.state s.tck chain m is))
