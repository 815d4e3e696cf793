use Rattle.std.proofs.Common.{◌≡◌, ◌+◌, true, false, ◌&&◌, drop, ap, sym, ◌∙◌}
use Rattle.board_chain.specs.Shifting.{all_shift, shifts}
use Rattle.board_chips.specs.WiredChips.{chip_state}
use Rattle.board_chain.proofs.ShiftLaws.{shift_next}
use Rattle.board_chain.proofs.chain.Chain.shifts.Goals as goal

pub returns-then-not-device_shifts : goal.returns-then-not-device_shifts
returns-then-not-device_shifts c =
    let chips = c.args.self.now.chips in
    let column = c.args.column in
    let stirs : shifts column (chip_state c.chip.result.now) ≡ false = sym c.device_shifts.ensures ∙ c.if-not-device_shifts.true in
    sym (sym c.loop-i.invariant ∙ shift_next column chips c.loop-i.i _ c.chip.ensures
    ∙ ap (λ b. b && all_shift column (drop (c.loop-i.i + 1) chips)) stirs)

pub loop-i-preserved : goal.loop-i-preserved
loop-i-preserved c =
    let chips = c.args.self.now.chips in
    let column = c.args.column in
    let shift : shifts column (chip_state c.chip.result.now) ≡ true = sym c.device_shifts.ensures ∙ c.if-not-device_shifts.false in
    sym (shift_next column chips c.loop-i.i _ c.chip.ensures
    ∙ ap (λ b. b && all_shift column (drop (c.loop-i.i + 1) chips)) shift)
    ∙ c.loop-i.invariant
