use Rattle.std.proofs.Common.{◌≡◌, IfOk, ap, subst, ◌∙◌}
use Rattle.board_model.specs.Chain.{BoardState}
use Rattle.jt_board.specs.Made.{board_of}
use Rattle.jt_board.proofs.Bares.{bare_is}
use Rattle.jt_board.proofs.board.bare_devices.Goals as goal

pub returns : goal.returns
returns c = subst (λ (b : BoardState). IfOk c.powered_up.result (λ x. x ≡ b)) (ap board_of c.in_ok-plan.ensures.wired ∙ bare_is c.args.n) c.powered_up.ensures
