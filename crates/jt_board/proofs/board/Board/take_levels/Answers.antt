use Rattle.std.proofs.Common.{sym, ap, subst}
use Rattle.bitbang_protocol.specs.declared.Message.TheVariants.{Write}
use Rattle.board_model.specs.Sound.{IsChain}
use Rattle.board_model.proofs.SoundEdges.{IsChain-told}
use Rattle.board_chain.specs.Chains.{ChainValue}
use Rattle.jt_board.specs.contracts.board.Board.{the_view}
use Rattle.jt_board.proofs.board.Board.take_levels.Goals as goal

pub invariant_of-self : goal.invariant_of-self
invariant_of-self c =
    subst IsChain (sym (ap (λ (v : ChainValue). v.chips) c.write.ensures))
    (IsChain-told (Write c.args.levels.tck c.args.levels.tms c.args.levels.tdi) (the_view c.self.inside) c.self.invariant)
