use Rattle.std.proofs.Common.{get_or, arith}
use Rattle.std.proofs.lemmas.Option.{slice_get-get_or}
use Rattle.board_model.specs.Whole.{reset_member}
use Rattle.board_chain.specs.AtRest.{Changes}
use Rattle.board_chain.proofs.SweepLaws.{swept_all, swept_more}
use Rattle.board_chain.proofs.settled.at_rest.reset_all.Goals as goal

pub loop-chip-preserved : goal.loop-chip-preserved
loop-chip-preserved c =
    let now = c.loop-chip.chips in
    let at = c.loop-chip.chip-index in
    swept_more (Changes reset_member) at c.args.chips.now now
    (get_or now at c.chip-item.result) c.reset.new.self c.loop-chip.invariant
    (slice_get-get_or now at c.chip-item.result (omega (arith, c.loop-chip-test.true, c.loop-chip.invariant.long)))
    (record { kept = c.reset.ensures.kept; trst = c.reset.ensures.trst; chip = c.reset.ensures.chip })

pub returns : goal.returns
returns c =
    swept_all (Changes reset_member) c.loop-chip.chip-index c.args.chips.now c.loop-chip.chips c.loop-chip.invariant
    (omega (arith, c.loop-chip-test.false, c.loop-chip.invariant.long))
