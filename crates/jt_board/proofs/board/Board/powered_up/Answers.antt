use Rattle.std.proofs.Common.{sym, ap, subst}
use Rattle.board_plan.specs.View.{wiring}
use Rattle.board_model.specs.Sound.{IsChain}
use Rattle.board_chain.specs.Chains.{ChainValue}
use Rattle.jt_board.specs.Made.{board_at}
use Rattle.jt_board.proofs.Bares.{sound_chain}
use Rattle.jt_board.proofs.board.Board.powered_up.Goals as goal

pub invariant_of-result : goal.invariant_of-result
invariant_of-result c = subst IsChain (sym (ap (λ (v : ChainValue). v.chips) c.in_ok-new.ensures)) (sound_chain (wiring c.args.plan.now) c.requires.sound)

pub returns : goal.returns
returns c = ap (board_at _) c.in_ok-new.ensures
