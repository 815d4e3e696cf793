use Rattle.std.proofs.Common.{◌≡◌, ◌+◌, ℕ, Some, length, set, slice_get, slice_index, sym, ap, ◌∙◌}
use Rattle.jt_bits.specs.Packed.{has_bit}
use Rattle.board_chips.specs.WiringValues.{WiringValue}
use Rattle.board_chips.specs.Tables.{targets}
use Rattle.boundary.proofs.MaskLaws.{zero_bit}
use Rattle.board_chips.proofs.RefreshLaws.{done_more, part_more}
use Rattle.board_chips.proofs.SettleLaws.{settles_both, settles_put, targets_long}
use Rattle.board_chips.proofs.refreshing.put_slots.Goals as goal

pub loop-left-preserved : goal.loop-left-preserved
loop-left-preserved c =
    let chips = c.args.chips.now in
    let nets = c.args.wiring.now.nets in
    let target = targets chips nets in
    let pins = c.args.pins.now in
    let at = c.args.at in
    let left = c.loop-left.left in
    let after = c.without_bit-left.result in
    let j = c.lowest-j.result in
    let k = slice_index pins (at + j) in
    let d = c.drive_in-drive.result in
    let ds = c.loop-left.wiring.drives in
    let es = c.place.new.self.drives in
    let within = c.lowest-j.ensures.within in
    let marked = c.lowest-j.ensures.marked in
    let so_far = c.loop-left.invariant in
    let aims : slice_get target k ≡ Some d = c.requires.slots.each j within (so_far.part j within marked) ∙ ap Some (sym c.drive_in-drive.ensures) in
    let long : length ds ≡ length target = so_far.settles.long ∙ c.requires.full ∙ sym (targets_long chips nets) in
    let put : es ≡ set ds k d = ap (λ (v : WiringValue). v.drives) c.place.ensures in
    record {
      nets = ap (λ (v : WiringValue). v.nets) c.place.ensures ∙ so_far.nets;
      settles = settles_both target c.args.wiring.now.drives ds es so_far.settles (settles_put target ds es k d put aims);
      part = part_more c.args.slots left after j within marked c.without_bit-left.ensures.others so_far.part;
      done = done_more target ds es pins at c.args.slots left after j d put aims long c.without_bit-left.ensures.others so_far.done;
    }

pub returns-clause-settled : goal.returns-clause-settled
returns-clause-settled c = record {
  each = λ j h marked. c.loop-left.invariant.done j h marked (ap (λ (m : ℕ). has_bit m j) c.loop-left-test.false ∙ zero_bit j);
}
