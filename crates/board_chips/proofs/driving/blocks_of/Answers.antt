use Rattle.std.proofs.Common.{◌≡◌, ◌+◌, [], ◌∷◌, ◌++◌, List, take, get_or, sym, subst}
use Rattle.std.proofs.lemmas.List.{take_all, take_more}
use Rattle.std.proofs.lemmas.List.Elements.{Contains-get_or}
use Rattle.board_chips.specs.Blocks.{AreSlots}
use Rattle.board_chips.specs.declared.driving.DrivingPin.{DrivingPin}
use Rattle.board_chips.proofs.driving.blocks_of.Goals as goal

abbrev none : DrivingPin
none = record { device = 0; cell = 0; pin = 0 }

pub loop-it-preserved : goal.loop-it-preserved
loop-it-preserved c =
    let driving = c.args.driving.now in
    let i = c.loop-it.it-index in
    let x = get_or driving i none in
    let more : take (i + 1) driving ≡ take i driving ++ x ∷ [] = take_more driving i none c.loop-it-test.true in
    record {
      long = c.in_ok-place.ensures.long;
      slots = λ n within.
          subst (λ (es : List DrivingPin). AreSlots es n c.enter_slot.new.blocks.items c.enter_slot.new.pins.items) (sym more)
          (c.in_ok-place.ensures.slots n (take i driving) (within x (Contains-get_or driving i none c.loop-it-test.true)) (c.loop-it.invariant.slots n within));
    }

pub returns : goal.returns
returns c = λ n within.
    let driving = c.args.driving.now in
    subst (λ (es : List DrivingPin). AreSlots es n c.loop-it.blocks.items c.loop-it.pins.items) (take_all c.loop-it.it-index driving c.loop-it-test.false)
    (c.loop-it.invariant.slots n within)
