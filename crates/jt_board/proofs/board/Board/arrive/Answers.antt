use Rattle.std.proofs.Common.{◌≡◌, sym, subst}
use Rattle.board_model.specs.Chain.{BoardState}
use Rattle.board_model.specs.Resting.{IsAtRest}
use Rattle.board_model.specs.Whole.{AtRest, arrive}
use Rattle.jt_board.specs.Resting.{IsResting}
use Rattle.jt_board.proofs.RestLaws.{arrive_else, arrive_in_dr, arrive_in_ir, arrive_in_reset}
use Rattle.jt_board.proofs.board.Board.arrive.Goals as goal
use Rattle.jt_board.proofs.board.Board.arrive.Goals.{in-Reset, in-DrPause, in-IrPause, in_default}

pub returns : goal.returns
returns c = λ m is.
    let end = c.args.state in
    let stood : (n : AtRest) → IsAtRest c.match-state.self n → arrive end m ≡ record n { place = end }
    → IsAtRest c.stand.new.self (arrive end m) =
    λ n there same. subst (λ (x : AtRest). IsAtRest c.stand.new.self x) (sym same) (c.stand.ensures n there) in
    elim c.match-state.branch [
      | in-Reset w ↦ stood _ (subst (λ (b : BoardState). IsAtRest b _) (sym w.self-is) (w.reset.ensures m is))
          (arrive_in_reset end m w.in-Reset.is)
      | in-DrPause w ↦ stood _ (subst (λ (b : BoardState). IsAtRest b _) (sym w.self-is) (w.capture.ensures m is))
          (arrive_in_dr end m w.in-DrPause.is)
      | in-IrPause w ↦
          stood _ (subst (λ (b : BoardState). IsAtRest b _) (sym w.self-is) (w.capture-in-IrPause.ensures m is))
          (arrive_in_ir end m w.in-IrPause.is)
      | in_default w ↦ stood m (subst (λ (b : BoardState). IsAtRest b m) (sym w.self-is) is)
          (arrive_else end m w.in_default.not-Reset w.in_default.not-DrPause w.in_default.not-IrPause)
    ]

pub stand-requires : goal.stand-requires
stand-requires c =
    let m = c.requires.state in
    let is = c.requires.is in
    let at : (n : AtRest) → IsAtRest c.match-state.self n → IsResting c.match-state.self =
    λ n there. record { state = n; is = there } in
    elim c.match-state.branch [
      | in-Reset w ↦ at _ (subst (λ (b : BoardState). IsAtRest b _) (sym w.self-is) (w.reset.ensures m is))
      | in-DrPause w ↦ at _ (subst (λ (b : BoardState). IsAtRest b _) (sym w.self-is) (w.capture.ensures m is))
      | in-IrPause w ↦
          at _ (subst (λ (b : BoardState). IsAtRest b _) (sym w.self-is) (w.capture-in-IrPause.ensures m is))
      | in_default w ↦ at m (subst (λ (b : BoardState). IsAtRest b m) (sym w.self-is) is)
    ]
