use Rattle.std.proofs.Common.{◌∙◌, sym, subst}
use Rattle.board_model.specs.Resting.{IsAtRest}
use Rattle.board_model.specs.Whole.{AtRest}
use Rattle.jt_board.proofs.RestLaws.{settle_else, settle_in_dr, settle_in_ir}
use Rattle.jt_board.proofs.board.Board.settle.Goals as goal

pub returns-in-DrPause : goal.returns-in-DrPause
returns-in-DrPause c = λ m is.
    subst (λ (n : AtRest). IsAtRest c.update.new.self n)
    (sym (settle_in_dr m (sym (c.place.ensures m is) ∙ c.in-DrPause.is))) (c.update.ensures m is)

pub returns-in-IrPause : goal.returns-in-IrPause
returns-in-IrPause c = λ m is.
    subst (λ (n : AtRest). IsAtRest c.update-in-IrPause.new.self n)
    (sym (settle_in_ir m (sym (c.place.ensures m is) ∙ c.in-IrPause.is)))
    (c.update-in-IrPause.ensures m is)

pub returns-in_default : goal.returns-in_default
returns-in_default c = λ m is.
    let place = c.place.ensures m is in
    subst (λ (n : AtRest). IsAtRest c.args.self.now n)
    (sym (settle_else m (λ e. c.in_default.not-DrPause (place ∙ e)) (λ e. c.in_default.not-IrPause (place ∙ e)))) is
