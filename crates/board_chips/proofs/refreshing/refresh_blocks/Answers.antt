use Rattle.std.proofs.Common.{◌≡◌, ◌<◌, ◌*◌, List, Some, length, map, get_or, slice_get, sym, subst, ◌∙◌, arith}
use Rattle.std.proofs.lemmas.List.{length-set}
use Rattle.std.proofs.lemmas.Option.{slice_get-get_or, slice_get_within}
use Rattle.boundary.specs.declared.DrivenCells.{DrivenCells}
use Rattle.pin_nets.specs.Wired.{Net}
use Rattle.board_chips.specs.Driving.{cells_of}
use Rattle.board_chips.specs.WiredChips.{held_of}
use Rattle.board_chips.specs.Tables.{AreTargeted, Settles, SlotsSettled, WasPut, targets}
use Rattle.board_chips.specs.declared.driving.Block.{Block}
use Rattle.board_chips.proofs.RefreshLaws.{refreshed_more, rest_more, was_put}
use Rattle.board_chips.proofs.SettleLaws.{settles_both}
use Rattle.board_chips.proofs.refreshing.refresh_blocks.Goals as goal

abbrev none : Block
none = record { device = 0; first = 0; slots = 0 }

abbrev nothing : DrivenCells
nothing = record { own = 0; bits = 0; off = 0; mute = 0 }

pub refresh_block-now-requires-clause-slots : goal.refresh_block-now-requires-clause-slots
refresh_block-now-requires-clause-slots c =
    let chips = c.args.chips.now in
    let blocks = c.args.blocks.now in
    let i = c.loop-i.i in
    let b = get_or blocks i none in
    subst (λ (ns : List Net). AreTargeted (map held_of chips) (targets chips ns) c.args.pins.now (64 * i) b) (sym c.loop-i.invariant.nets)
    (c.requires.slots i b (slice_get-get_or blocks i none c.loop-i-test.true))

pub refresh_block-now-requires-clause-put : goal.refresh_block-now-requires-clause-put
refresh_block-now-requires-clause-put c =
    let chips = c.args.chips.now in
    let nets = c.args.wiring.now.nets in
    let blocks = c.args.blocks.now in
    let i = c.loop-i.i in
    let b = get_or blocks i none in
    let p = get_or c.loop-i.put i nothing in
    let at : slice_get blocks i ≡ Some b = slice_get-get_or blocks i none c.loop-i-test.true in
    let inside : i < length c.loop-i.put = omega (arith, c.loop-i-test.true, c.loop-i.invariant.long, c.requires.put.long) in
    let kept : slice_get c.args.put.now i ≡ Some p = sym (c.loop-i.invariant.rest i (omega arith)) ∙ slice_get-get_or c.loop-i.put i nothing inside in
    subst (λ (ns : List Net). WasPut (map cells_of chips) (map held_of chips) (targets chips ns) c.loop-i.wiring.drives c.args.pins.now (64 * i) b p) (sym c.loop-i.invariant.nets)
    (was_put (map cells_of chips) (map held_of chips) (targets chips nets) c.args.wiring.now.drives c.loop-i.wiring.drives blocks c.args.pins.now c.args.put.now i b p
    c.requires.put at kept (c.requires.slots i b at) c.loop-i.invariant.settles)

pub loop-i-preserved : goal.loop-i-preserved
loop-i-preserved c =
    let chips = c.args.chips.now in
    let nets = c.args.wiring.now.nets in
    let target = targets chips nets in
    let blocks = c.args.blocks.now in
    let i = c.loop-i.i in
    let b = get_or blocks i none in
    let so_far = c.loop-i.invariant in
    let ds = c.loop-i.wiring.drives in
    let es = c.refresh_block-now.new.wiring.drives in
    let now = c.refresh_block-now.result in
    let at : slice_get blocks i ≡ Some b = slice_get-get_or blocks i none c.loop-i-test.true in
    let inside : i < length c.loop-i.put = omega (arith, c.loop-i-test.true, so_far.long, c.requires.put.long) in
    let settles : Settles target ds es = subst (λ (ns : List Net). Settles (targets chips ns) ds es) so_far.nets c.refresh_block-now.ensures.settles in
    let settled : SlotsSettled target es c.args.pins.now (64 * i) b.slots =
    subst (λ (ns : List Net). SlotsSettled (targets chips ns) es c.args.pins.now (64 * i) b.slots) so_far.nets c.refresh_block-now.ensures.settled in
    record {
      nets = c.refresh_block-now.ensures.nets ∙ so_far.nets;
      settles = settles_both target c.args.wiring.now.drives ds es so_far.settles settles;
      long = length-set c.loop-i.put i now ∙ so_far.long;
      rest = rest_more c.loop-i.put c.args.put.now i now so_far.rest;
      done =
          refreshed_more (map cells_of chips) (map held_of chips) target ds es blocks c.args.pins.now c.loop-i.put i b now at inside settles settled
          c.refresh_block-now.ensures.tells so_far.done;
    }

pub returns-clause-blocks : goal.returns-clause-blocks
returns-clause-blocks c = λ k b at.
    let inside : k < length c.args.blocks.now = slice_get_within c.args.blocks.now k b at in
    c.loop-i.invariant.done k b (omega (arith, inside, c.loop-i-test.false)) at
