use Rattle.std.proofs.Common.{◌≡◌, ◌≤◌, ◌∙◌, ℕ, Option, Some, None, length, refl, sym, ap, subst}
use Rattle.jt_limits.specs.Limits.{limits}
use Rattle.board_model.specs.Chain.{BoardState}
use Rattle.board_plan.specs.View.{wiring}
use Rattle.jt_board.specs.Made.{board_of}
use Rattle.play_model.specs.declared.kind.Kind.{Kind}
use Rattle.play_model.specs.declared.kind.Kind.TheVariants.{Stops, PlaysOn}
use Rattle.play_waves.specs.Stages.{IsJudgeOf, judge_for, kind_judged}
use Rattle.play_waves.proofs.stage.Stage.powered_up.Goals as goal

judged-by : (kind : Kind) (b ahead : BoardState) (judge : Option BoardState) → judge ≡ judge_for kind b → ahead ≡ b → IsJudgeOf judge ahead
judged-by Stops b ahead (Some j) e f = let same : j ≡ b = cc in same ∙ sym f
judged-by Stops b ahead None e f = absurd cc
judged-by PlaysOn b ahead None e f = tt
judged-by PlaysOn b ahead (Some j) e f = absurd cc

kind-is : (kind : Kind) (b : BoardState) → kind_judged (judge_for kind b) ≡ kind
kind-is Stops b = refl
kind-is PlaysOn b = refl

pub invariant_of-result : goal.invariant_of-result
invariant_of-result c =
    let b = board_of (wiring c.args.plan.now) in
    let ahead = c.in_ok-powered_up-2.ensures in (
      judged-by c.args.kind b _ _ c.in_ok-judge.ensures ahead,
      c.in_ok-powered_up.ensures ∙ sym ahead,
      subst (λ (n : ℕ). n ≤ limits.nets) (sym (ap (λ (b : BoardState). length b.nets) ahead)) c.requires.nets,
    )

pub returns : goal.returns
returns c =
    let b = board_of (wiring c.args.plan.now) in
    λ i. record { kind = (ap kind_judged c.in_ok-judge.ensures ∙ kind-is c.args.kind b) i; board = c.in_ok-powered_up-2.ensures i }
