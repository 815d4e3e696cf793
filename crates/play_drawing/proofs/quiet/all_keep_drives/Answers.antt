use Rattle.std.proofs.Common.{◌≡◌, ◌+◌, Bool, true, false, ◌&&◌, drop, sym, ap, ◌∙◌}
use Rattle.std.specs.List.{list_all}
use Rattle.jt_tap.specs.Controller.{work}
use Rattle.jt_tap.specs.declared.State.{State}
use Rattle.board_model.specs.Chain.{ChipState}
use Rattle.play_drawing.specs.Quiet.{keeps_drives}
use Rattle.play_drawing.proofs.Sides.{next}
use Rattle.play_drawing.proofs.quiet.all_keep_drives.Goals as goal

abbrev test : ChipState → Bool
test x = keeps_drives (work x.state)

pub returns-then-not-keeps_drives : goal.returns-then-not-keeps_drives
returns-then-not-keeps_drives c =
    let chips = c.args.chain.now.chips in
    let i = c.loop-i.i in
    let drives : keeps_drives (work c.chip.result.now.chip.state) ≡ false =
    ap (λ (s : State). keeps_drives (work s)) (sym c.state.ensures) ∙ ap keeps_drives (sym c.work.ensures) ∙ sym c.keeps_drives.ensures ∙ c.if-not-keeps_drives.true in
    sym (c.loop-i.invariant ∙ next test chips i _ c.chip.ensures ∙ ap (λ (b : Bool). b && list_all test (drop (i + 1) chips)) drives)

pub loop-i-preserved : goal.loop-i-preserved
loop-i-preserved c =
    let chips = c.args.chain.now.chips in
    let i = c.loop-i.i in
    let keeps : keeps_drives (work c.chip.result.now.chip.state) ≡ true =
    ap (λ (s : State). keeps_drives (work s)) (sym c.state.ensures) ∙ ap keeps_drives (sym c.work.ensures) ∙ sym c.keeps_drives.ensures ∙ c.if-not-keeps_drives.false in
    c.loop-i.invariant ∙ next test chips i _ c.chip.ensures ∙ ap (λ (b : Bool). b && list_all test (drop (i + 1) chips)) keeps
