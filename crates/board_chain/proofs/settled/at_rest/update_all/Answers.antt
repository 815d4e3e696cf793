use Rattle.std.proofs.Common.{true≢false, get_or, sym, ◌∙◌, arith}
use Rattle.std.proofs.lemmas.Option.{slice_get-get_or}
use Rattle.board_model.specs.Whole.{update_member}
use Rattle.board_chain.specs.AtRest.{Changes}
use Rattle.board_chain.specs.Sweeping.{Still}
use Rattle.board_chain.proofs.SweepLaws.{swept_all, swept_more}
use Rattle.board_chain.proofs.settled.at_rest.update_all.Goals as goal
use Rattle.board_chain.proofs.settled.at_rest.update_all.Goals.{then-update_anew, else-update_anew}

pub loop-chip-preserved : goal.loop-chip-preserved
loop-chip-preserved c =
    let now = c.loop-chip.chips in
    let at = c.loop-chip.chip-index in
    let was = get_or now at c.chip-item.result in
    let kept = c.loop-chip.invariant in
    let here = slice_get-get_or now at c.chip-item.result (omega (arith, c.loop-chip-test.true, kept.devices.long)) in
    record {
      devices = swept_more (Changes (update_member c.args.column)) at c.args.chips.now now was c.update_anew.new.self kept.devices here
          (record { kept = c.update_anew.ensures.kept; trst = c.update_anew.ensures.trst; chip = c.update_anew.ensures.chip });
      still = λ quiet. elim c.if-update_anew.branch [
        | then-update_anew w ↦ absurd (true≢false (sym w.anew-is ∙ quiet))
        | else-update_anew w ↦ swept_more Still at c.args.chips.now now was c.update_anew.new.self
            (kept.still (sym w.anew-is ∙ quiet)) here (c.update_anew.ensures.still w.if-update_anew.false)
      ];
    }

pub returns-clause-devices : goal.returns-clause-devices
returns-clause-devices c =
    let kept = c.loop-chip.invariant.devices in
    swept_all (Changes (update_member c.args.column)) c.loop-chip.chip-index c.args.chips.now c.loop-chip.chips kept
    (omega (arith, c.loop-chip-test.false, kept.long))

pub returns-clause-still : goal.returns-clause-still
returns-clause-still c = λ quiet.
    let kept = c.loop-chip.invariant.still quiet in
    swept_all Still c.loop-chip.chip-index c.args.chips.now c.loop-chip.chips kept
    (omega (arith, c.loop-chip-test.false, kept.long))
