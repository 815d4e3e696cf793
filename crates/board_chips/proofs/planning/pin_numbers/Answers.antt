use Rattle.std.proofs.Common.{◌≡◌, ◌+◌, ℕ, List, Option, Some, get_or, slice_get, length, map, sym, ap, subst, ◌∙◌}
use Rattle.std.specs.Global.{Vec}
use Rattle.std.proofs.lemmas.List.{with_items_is}
use Rattle.std.proofs.lemmas.Option.{slice_get-get_or}
use Rattle.pin_nets.specs.declared.Pin.{Pin}
use Rattle.board_plan.specs.AllCellNets.{lists_of, with_pin}
use Rattle.board_plan.specs.View.{member as planned_member}
use Rattle.board_chips.specs.Planning.{HaveNumbers}
use Rattle.board_chips.proofs.PlanningLaws.{no_numbers, number_entered}
use Rattle.board_chips.proofs.planning.pin_numbers.Goals as goal

pub loop-number-init : goal.loop-number-init
loop-number-init c = no_numbers (map planned_member c.args.devices.now) c.args.pins.now (lists_of c.in_ok-tables.tables.items) c.in_ok-tables.ensures

pub loop-number-preserved : goal.loop-number-preserved
loop-number-preserved c =
    let members = map planned_member c.args.devices.now in
    let n = c.loop-number.number in
    let old = c.loop-number.tables.items in
    let new = c.enter_pin.new.tables in
    let none : Pin = record { device = 0; port = 0 } in
    let pin : Pin = get_or c.args.pins.now n none in
    let at : slice_get c.args.pins.now n ≡ Some pin = slice_get-get_or c.args.pins.now n none c.loop-number-test.true in
    let put : lists_of new ≡ with_pin n pin (lists_of old) =
    c.enter_pin.ensures ∙ ap (λ (ts : List (Vec (Option ℕ))). with_pin n pin (lists_of ts)) c.deref_mut.ensures.value in
    let items = with_items_is c.loop-number.tables new (c.enter_pin.auto.tables ∙ ap length c.deref_mut.ensures.value ∙ sym c.loop-number.tables.ok.0) in
    subst (λ (ts : List (Vec (Option ℕ))). HaveNumbers members c.args.pins.now (n + 1) (lists_of ts)) (sym items)
    (number_entered members c.args.pins.now n pin (lists_of old) (lists_of new) c.loop-number.invariant at put)
