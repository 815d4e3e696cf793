use Rattle.std.proofs.Common.{◌≡◌, Some, get_or, slice_get, sym, ◌∙◌, arith}
use Rattle.std.proofs.lemmas.Option.{slice_get-get_or}
use Rattle.board_chain.specs.AtRest.{CapturesAt}
use Rattle.board_chain.proofs.ChainLaws.{net_below}
use Rattle.board_chain.proofs.SweepLaws.{swept_all, swept_more}
use Rattle.board_chain.proofs.settled.at_rest.capture_all.Goals as goal

pub capture-requires : goal.capture-requires
capture-requires c =
    let now = c.loop-chip.chips in
    let at = c.loop-chip.chip-index in
    let s = get_or now at c.chip-item.result in
    let here : slice_get now at ≡ Some s =
    slice_get-get_or now at c.chip-item.result (omega (arith, c.loop-chip-test.true, c.loop-chip.invariant.long)) in
    record {
      below =
          net_below c.args.wiring.now.nets 0 c.args.chips.now at s c.requires.cells
          (sym (c.loop-chip.invariant.rest at (omega arith)) ∙ here);
    }

pub loop-chip-preserved : goal.loop-chip-preserved
loop-chip-preserved c =
    let now = c.loop-chip.chips in
    let at = c.loop-chip.chip-index in
    swept_more (CapturesAt c.args.wiring.now c.args.column) at c.args.chips.now now
    (get_or now at c.chip-item.result) c.capture.new.self c.loop-chip.invariant
    (slice_get-get_or now at c.chip-item.result (omega (arith, c.loop-chip-test.true, c.loop-chip.invariant.long)))
    (record { kept = c.capture.ensures.kept; trst = c.capture.ensures.trst; chip = c.capture.ensures.chip at })

pub returns : goal.returns
returns c =
    swept_all
    (CapturesAt c.args.wiring.now c.args.column) c.loop-chip.chip-index c.args.chips.now
    c.loop-chip.chips c.loop-chip.invariant
    (omega (arith, c.loop-chip-test.false, c.loop-chip.invariant.long))
