use Rattle.std.proofs.Common.{◌≡◌, ◌+◌, Some, get_or, slice_get, drop, map, sym, ap, ◌∙◌, arith}
use Rattle.std.proofs.lemmas.Option.{slice_get-get_or}
use Rattle.board_model.specs.Chain as chain
use Rattle.board_chips.specs.WiredChips.{chip_state, told_by}
use Rattle.board_chain.specs.Sweeping.{Rises}
use Rattle.board_chips.specs.Telling.{sight}
use Rattle.board_chain.proofs.SweepLaws.{drop_alike, map_drop, swept_all, swept_more}
use Rattle.board_chain.proofs.ChainLaws.{net_below}
use Rattle.board_chain.proofs.settled.rise_all.Goals as goal

pub rise-requires : goal.rise-requires
rise-requires c =
    let now = c.loop-i.chips in
    let s = get_or now c.loop-i.i c.index-chips-i.result in
    let here : slice_get now c.loop-i.i ≡ Some s = slice_get-get_or now c.loop-i.i c.index-chips-i.result (omega (arith, c.loop-i-test.true, c.loop-i.invariant.long)) in
    record { below = net_below c.args.wiring.now.nets 0 c.args.chips.now c.loop-i.i s c.requires.cells (sym (c.loop-i.invariant.rest c.loop-i.i (omega arith)) ∙ here) }

pub loop-i-preserved : goal.loop-i-preserved
loop-i-preserved c =
    let old = c.args.chips.now in
    let now = c.loop-i.chips in
    let at = c.loop-i.i in
    let s = get_or now at c.index-chips-i.result in
    let here : slice_get now at ≡ Some s = slice_get-get_or now at c.index-chips-i.result (omega (arith, c.loop-i-test.true, c.loop-i.invariant.long)) in
    let behind : drop (at + 1) (map chip_state now) ≡ drop (at + 1) (map chip_state old) =
    map_drop chip_state (at + 1) now ∙ ap (map chip_state) (drop_alike (at + 1) old now c.loop-i.invariant.long (λ j h. c.loop-i.invariant.rest j (omega (arith, h))))
    ∙ sym (map_drop chip_state (at + 1) old) in
    let before = c.tdi_of-before.ensures ∙ ap (chain.tdi_before c.args.tdi) behind in
    swept_more (Rises c.args.wiring.now c.args.tms c.args.tdi old) at old now s c.rise.new.self c.loop-i.invariant here
    (record {
      kept = c.rise.ensures.kept;
      trst = c.rise.ensures.trst;
      chip = λ held is. c.rise.ensures.chip at held is
          ∙ ap (λ b. chain.rise s.chip.trst c.args.tms b (told_by (sight c.args.wiring.now held at) s) (chip_state s)) before;
    })

pub returns : goal.returns
returns c = swept_all (Rises c.args.wiring.now c.args.tms c.args.tdi c.args.chips.now) c.loop-i.i c.args.chips.now c.loop-i.chips c.loop-i.invariant (omega (arith, c.loop-i-test.false, c.loop-i.invariant.long))
