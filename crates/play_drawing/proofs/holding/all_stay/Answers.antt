use Rattle.std.proofs.Common.{◌≡◌, ◌+◌, Bool, true, false, ◌&&◌, drop, sym, ap, ◌∙◌}
use Rattle.std.specs.List.{list_all}
use Rattle.board_chips.specs.WiredChips.{chip_state}
use Rattle.play_drawing.specs.Holding.{stays}
use Rattle.play_drawing.proofs.Sides.{next}
use Rattle.play_drawing.proofs.holding.all_stay.Goals as goal

pub returns-then-not-stays : goal.returns-then-not-stays
returns-then-not-stays c =
    let chips = c.args.chain.now.chips in
    let i = c.loop-i.i in
    let test = stays c.args.trst c.args.tms in
    let moves : test (chip_state c.chip.result.now) ≡ false = sym c.stays.ensures ∙ c.if-not-stays.true in
    sym (c.loop-i.invariant ∙ next test chips i _ c.chip.ensures ∙ ap (λ (b : Bool). b && list_all test (drop (i + 1) chips)) moves)

pub loop-i-preserved : goal.loop-i-preserved
loop-i-preserved c =
    let chips = c.args.chain.now.chips in
    let i = c.loop-i.i in
    let test = stays c.args.trst c.args.tms in
    let there : test (chip_state c.chip.result.now) ≡ true = sym c.stays.ensures ∙ c.if-not-stays.false in
    c.loop-i.invariant ∙ next test chips i _ c.chip.ensures ∙ ap (λ (b : Bool). b && list_all test (drop (i + 1) chips)) there
