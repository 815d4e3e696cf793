use Rattle.std.proofs.Common.{◌≡◌, ◌∙◌, Some, length, slice_get, refl, sym, ap, subst, arith}
use Rattle.board_chips.specs.WiredChips.{WiredChipValue, with_seen}
use Rattle.board_chips.specs.Sighted.{sighted_of}
use Rattle.board_chips.specs.Telling.{IsAt, sight}
use Rattle.board_chips.proofs.SightedLaws.{entry_below, entry_cell, entry_first, told_first, told_last, told_next}
use Rattle.board_chips.proofs.TellLaws.{told_all}
use Rattle.board_chips.proofs.chip.WiredChip.tell.Goals as goal

pub loop-i-init : goal.loop-i-init
loop-i-init c =
    let s = c.args.self.now in
    record { same = refl; long = refl; told = λ place ms at. told_first (sight c.args.wiring.now ms place) s.nets s.chip.device.cells s.chip.boundary.seen }

pub tell_cell-requires-clause-cell : goal.tell_cell-requires-clause-cell
tell_cell-requires-clause-cell c =
    let s = c.loop-i.self in
    entry_cell s.nets s.chip.device.cells c.loop-i.i c.sighted_cell-it.result c.sighted_cell-it.ensures

pub tell_cell-requires-clause-below : goal.tell_cell-requires-clause-below
tell_cell-requires-clause-below c =
    let s = c.args.self.now in
    let there = subst (λ (x : WiredChipValue). slice_get (sighted_of x) c.loop-i.i ≡ Some c.sighted_cell-it.result) c.loop-i.invariant.same c.sighted_cell-it.ensures in
    entry_below (length c.args.wiring.now.nets) s.nets s.chip.device.cells c.loop-i.i c.sighted_cell-it.result c.sighted_count-i-end.ensures.nets c.requires.below there

pub loop-i-preserved : goal.loop-i-preserved
loop-i-preserved c =
    let s = c.args.self.now in
    let now = c.loop-i.self in
    let new = c.tell_cell.new.self in
    let e = c.sighted_cell-it.result in
    let kept = c.loop-i.invariant in
    let there : slice_get (sighted_of s) c.loop-i.i ≡ Some e =
    subst (λ (x : WiredChipValue). slice_get (sighted_of x) c.loop-i.i ≡ Some e) kept.same c.sighted_cell-it.ensures in
    record {
      same = c.tell_cell.ensures.same ∙ ap (with_seen new.chip.boundary.seen) kept.same;
      long = c.tell_cell.ensures.long ∙ kept.long;
      told = λ place ms at.
          let at-now : IsAt c.args.wiring.now place ms now = subst (λ (x : WiredChipValue). IsAt c.args.wiring.now place ms x) (sym kept.same)
          (record { here = at.here; drives = at.drives; nets = at.nets }) in
          told_next (sight c.args.wiring.now ms place) s.nets s.chip.device.cells c.loop-i.i now.chip.boundary.seen new.chip.boundary.seen e there
          c.tell_cell.ensures.others
          (c.tell_cell.ensures.told place ms at-now (entry_first c.args.wiring.now place ms s c.loop-i.i e c.sighted_count-i-end.ensures.nets at there))
          (kept.told place ms at);
    }

pub returns-clause-told : goal.returns-clause-told
returns-clause-told c = λ place ms at.
    let s = c.args.self.now in
    let sees = sight c.args.wiring.now ms place in
    told_all sees s.chip.device.cells c.loop-i.self.chip.boundary.seen
    (told_last sees s.chip.device.cells (sighted_of s) c.loop-i.i c.loop-i.self.chip.boundary.seen
    (omega (arith, c.sighted_count-i-end.ensures.count, c.loop-i-test.false)) (c.loop-i.invariant.told place ms at))
