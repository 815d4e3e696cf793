use Rattle.std.proofs.Common.{get_or, arith}
use Rattle.std.proofs.lemmas.Option.{slice_get-get_or}
use Rattle.board_chain.specs.AtRest.{Stands}
use Rattle.board_chain.proofs.SweepLaws.{swept_all, swept_more}
use Rattle.board_chain.proofs.settled.at_rest.stand_all.Goals as goal

pub loop-chip-preserved : goal.loop-chip-preserved
loop-chip-preserved c =
    let now = c.loop-chip.chips in
    let at = c.loop-chip.chip-index in
    swept_more (Stands c.args.state) at c.args.chips.now now
    (get_or now at c.chip-item.result) c.stand.new.self c.loop-chip.invariant
    (slice_get-get_or now at c.chip-item.result (omega (arith, c.loop-chip-test.true, c.loop-chip.invariant.long)))
    (record { kept = c.stand.ensures.kept; trst = c.stand.ensures.trst; chip = c.stand.ensures.chip })

pub returns : goal.returns
returns c =
    swept_all (Stands c.args.state) c.loop-chip.chip-index c.args.chips.now c.loop-chip.chips c.loop-chip.invariant
    (omega (arith, c.loop-chip-test.false, c.loop-chip.invariant.long))
