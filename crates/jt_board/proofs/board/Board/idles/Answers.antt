use Rattle.std.proofs.Common.{◌≡◌, ◌+◌, true, false, ◌&&◌, not, drop, ap, ap₂, sym, ◌∙◌}
use Rattle.std.specs.List.{list_all}
use Rattle.jt_board.specs.Idling.{idles, rests}
use Rattle.jt_board.proofs.Idling.{rest_next}
use Rattle.jt_board.proofs.board.Board.idles.Goals as goal

pub returns-then-not-rests : goal.returns-then-not-rests
returns-then-not-rests c =
    let chips = c.self.inside.chain.chips in
    let stirs : rests c.chip-chip.result.now.chip.state c.chip-chip.result.now.chip.tdo ≡ false =
    ap₂ rests (sym c.state.ensures) (sym c.tdo.ensures) ∙ sym c.rests.ensures ∙ c.if-not-rests.true in
    sym
    (ap (λ t. not t && list_all (λ c. rests c.state c.tdo) chips) (sym c.trst.ensures ∙ c.if-trst.false)
    ∙ sym c.loop-i.invariant
    ∙ rest_next chips c.loop-i.i _ c.chip-chip.ensures
    ∙ ap (λ b. b && list_all (λ c. rests c.state c.tdo) (drop (c.loop-i.i + 1) chips)) stirs)
    ∙ ap idles c.self.view_is

pub loop-i-preserved : goal.loop-i-preserved
loop-i-preserved c =
    let chips = c.self.inside.chain.chips in
    let rested : rests c.chip-chip.result.now.chip.state c.chip-chip.result.now.chip.tdo ≡ true =
    ap₂ rests (sym c.state.ensures) (sym c.tdo.ensures) ∙ sym c.rests.ensures ∙ c.if-not-rests.false in
    sym (rest_next chips c.loop-i.i _ c.chip-chip.ensures
    ∙ ap (λ b. b && list_all (λ c. rests c.state c.tdo) (drop (c.loop-i.i + 1) chips)) rested)
    ∙ c.loop-i.invariant
