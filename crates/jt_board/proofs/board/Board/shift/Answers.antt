use Rattle.std.proofs.Common.{sym, ap, subst}
use Rattle.board_model.specs.Chain.{BoardState}
use Rattle.board_model.specs.Resting.{IsAtRest}
use Rattle.board_model.specs.Sound.{IsChain}
use Rattle.board_model.specs.Whole as whole
use Rattle.board_model.specs.Whole.{AtRest}
use Rattle.scan_vectors.specs.Held.{bits}
use Rattle.scan_vectors.specs.Vector.{tdis}
use Rattle.board_chain.specs.Chains.{ChainValue}
use Rattle.jt_board.specs.Made.{board_at}
use Rattle.jt_board.specs.contracts.board.Board.{the_view}
use Rattle.jt_board.proofs.RestLaws.{chain-shifted, rests_shifted}
use Rattle.jt_board.proofs.board.Board.shift.Goals as goal

pub invariant_of-self : goal.invariant_of-self
invariant_of-self c =
    let chain = c.self.inside.chain in
    subst IsChain (sym (ap (λ (v : ChainValue). v.chips) c.shift.ensures))
    (chain-shifted c.args.column (tdis (bits c.args.vector.now)) chain.chips c.self.invariant)

pub returns : goal.returns
returns c =
    let s = c.self.inside in
    let chain = s.chain in
    subst (λ (b : BoardState). (m : AtRest) → IsAtRest b m
    → IsAtRest (the_view (record s { chain = c.shift.new.self }))
    (whole.shift c.args.column (tdis (bits c.args.vector.now)) m))
    c.self.view_is
    (λ m is. subst
    (λ (v : ChainValue). IsAtRest (board_at s.tck v)
    (whole.shift c.args.column (tdis (bits c.args.vector.now)) m)) (sym c.shift.ensures)
    (rests_shifted c.args.column (tdis (bits c.args.vector.now)) s.tck chain m is))
