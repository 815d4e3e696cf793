use Rattle.std.proofs.Common.{◌≡◌, ◌+◌, Bool, true, false, ◌&&◌, drop, sym, ap, ◌∙◌}
use Rattle.jt_tap.specs.Controller.{is_at}
use Rattle.jt_tap.specs.declared.State.{State}
use Rattle.board_model.specs.Chain.{ChipState}
use Rattle.play_drawing.specs.Shifted.{all_at}
use Rattle.play_drawing.proofs.Sides.{next}
use Rattle.play_drawing.proofs.drawing.shifting.all_at.Goals as goal

pub returns-then-not-is_same_state : goal.returns-then-not-is_same_state
returns-then-not-is_same_state c =
    let chips = c.args.chain.now.chips in
    let i = c.loop-i.i in
    let elsewhere : is_at c.chip.result.now.chip.state c.args.state ≡ false =
    ap (λ (s : State). is_at s c.args.state) (sym c.state.ensures) ∙ sym c.is_same_state.ensures ∙ c.if-not-is_same_state.true in
    sym (c.loop-i.invariant
    ∙ next (λ (x : ChipState). is_at x.state c.args.state) chips i _ c.chip.ensures
    ∙ ap (λ (b : Bool). b && all_at c.args.state (drop (i + 1) chips)) elsewhere)

pub loop-i-preserved : goal.loop-i-preserved
loop-i-preserved c =
    let chips = c.args.chain.now.chips in
    let i = c.loop-i.i in
    let there : is_at c.chip.result.now.chip.state c.args.state ≡ true =
    ap (λ (s : State). is_at s c.args.state) (sym c.state.ensures) ∙ sym c.is_same_state.ensures ∙ c.if-not-is_same_state.false in
    c.loop-i.invariant
    ∙ next (λ (x : ChipState). is_at x.state c.args.state) chips i _ c.chip.ensures
    ∙ ap (λ (b : Bool). b && all_at c.args.state (drop (i + 1) chips)) there
