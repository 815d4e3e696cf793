use Rattle.std.proofs.Common.{◌≡◌, ◌+◌, Bool, true, false, ◌&&◌, drop, sym, ap, ◌∙◌}
use Rattle.jt_tap.specs.Controller.{is_stable}
use Rattle.board_model.specs.Chain.{ChipState}
use Rattle.play_drawing.specs.Drawing.{is_resting}
use Rattle.play_drawing.proofs.Sides.{next}
use Rattle.play_drawing.proofs.marks.rests.Goals as goal

pub returns-then-not-is_stable : goal.returns-then-not-is_stable
returns-then-not-is_stable c =
    let chips = c.args.chain.now.chips in
    let i = c.loop-i.i in
    let stirs : is_stable c.chip.result.now.chip.state ≡ false =
    ap is_stable (sym c.state.ensures) ∙ sym c.is_stable.ensures ∙ c.if-not-is_stable.true in
    sym (c.loop-i.invariant
    ∙ next (λ (x : ChipState). is_stable x.state) chips i _ c.chip.ensures
    ∙ ap (λ (b : Bool). b && is_resting (drop (i + 1) chips)) stirs)

pub loop-i-preserved : goal.loop-i-preserved
loop-i-preserved c =
    let chips = c.args.chain.now.chips in
    let i = c.loop-i.i in
    let rests : is_stable c.chip.result.now.chip.state ≡ true =
    ap is_stable (sym c.state.ensures) ∙ sym c.is_stable.ensures ∙ c.if-not-is_stable.false in
    c.loop-i.invariant
    ∙ next (λ (x : ChipState). is_stable x.state) chips i _ c.chip.ensures
    ∙ ap (λ (b : Bool). b && is_resting (drop (i + 1) chips)) rests
