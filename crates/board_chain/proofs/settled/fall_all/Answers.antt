use Rattle.std.proofs.Common.{true≢false, get_or, sym, ◌∙◌, arith}
use Rattle.std.proofs.lemmas.Option.{slice_get-get_or}
use Rattle.board_chain.specs.Sweeping.{Falls, Still}
use Rattle.board_chain.proofs.SweepLaws.{swept_all, swept_more}
use Rattle.board_chain.proofs.settled.fall_all.Goals as goal
use Rattle.board_chain.proofs.settled.fall_all.Goals.{then-fall_anew, else-fall_anew}

pub loop-chip-preserved : goal.loop-chip-preserved
loop-chip-preserved c =
    let now = c.loop-chip.chips in
    let at = c.loop-chip.chip-index in
    let was = get_or now at c.chip-item.result in
    let kept = c.loop-chip.invariant in
    let here = slice_get-get_or now at c.chip-item.result (omega (arith, c.loop-chip-test.true, kept.devices.long)) in
    record {
      devices = swept_more Falls at c.args.chips.now now was c.fall_anew.new.self kept.devices here
          (record { kept = c.fall_anew.ensures.kept; trst = c.fall_anew.ensures.trst; chip = c.fall_anew.ensures.chip });
      still = λ quiet. elim c.if-fall_anew.branch [
        | then-fall_anew w ↦ absurd (true≢false (sym w.anew-is ∙ quiet))
        | else-fall_anew w ↦ swept_more Still at c.args.chips.now now was c.fall_anew.new.self
            (kept.still (sym w.anew-is ∙ quiet)) here (c.fall_anew.ensures.still w.if-fall_anew.false)
      ];
    }

pub returns-clause-devices : goal.returns-clause-devices
returns-clause-devices c =
    let kept = c.loop-chip.invariant.devices in
    swept_all Falls c.loop-chip.chip-index c.args.chips.now c.loop-chip.chips kept
    (omega (arith, c.loop-chip-test.false, kept.long))

pub returns-clause-still : goal.returns-clause-still
returns-clause-still c = λ quiet.
    let kept = c.loop-chip.invariant.still quiet in
    swept_all Still c.loop-chip.chip-index c.args.chips.now c.loop-chip.chips kept
    (omega (arith, c.loop-chip-test.false, kept.long))
