use Rattle.std.proofs.Common.{◌+◌, ◌-◌, ℕ, drop, sym, ap, ◌∙◌, arith}
use Rattle.std.proofs.lemmas.List.{length-map}
use Rattle.board_model.specs.Chain.{ChipState, members}
use Rattle.board_chips.specs.WiredChips.{chip_state, member_of}
use Rattle.board_reasons.specs.Origins.{origin_from}
use Rattle.board_reasons.proofs.Walks.{found_here, further_on, member_there, past_all}
use Rattle.board_reasons.proofs.finding.origin_of.Goals as goal

pub returns-then-rest-len-clause-value : goal.returns-then-rest-len-clause-value
returns-then-rest-len-clause-value c =
    let chips = c.args.chain.now.chips in
    let i = c.loop-device.device in
    let here = member_there chips i (chip_state c.chip.result.now) c.chip.ensures in
    sym (found_here c.args.column (members chips) i c.loop-device.rest (member_of c.chip.result.now) here (omega (arith, c.if-rest-len.true, c.register_len-len.ensures)))
    ∙ c.loop-device.invariant

pub loop-device-preserved : goal.loop-device-preserved
loop-device-preserved c =
    let chips = c.args.chain.now.chips in
    let i = c.loop-device.device in
    let here = member_there chips i (chip_state c.chip.result.now) c.chip.ensures in
    ap (λ (n : ℕ). origin_from c.args.column (i + 1) (drop (i + 1) (members chips)) (c.loop-device.rest - n)) c.register_len-len.ensures
    ∙ sym (further_on c.args.column (members chips) i c.loop-device.rest (member_of c.chip.result.now) here (omega (arith, c.if-rest-len.false, c.register_len-len.ensures)))
    ∙ c.loop-device.invariant

pub returns-clause-value : goal.returns-clause-value
returns-clause-value c =
    let chips = c.args.chain.now.chips in
    sym (past_all c.args.column (members chips) c.loop-device.device c.loop-device.rest
    (omega (arith, c.loop-device-test.false, c.devices-device-end.ensures, length-map chips (λ (d : ChipState). d.member))))
    ∙ c.loop-device.invariant
