use Rattle.std.proofs.Common.{◌≡◌, ◌<◌, length, map, ap, sym, ◌∙◌, take_all, arith, subst, List, ℕ, Option}
use Rattle.std.proofs.lemmas.List.{length-map}
use Rattle.board_plan.specs.AllCellNets.{lists_of, table_at}
use Rattle.board_plan.specs.Planned.{all_pins}
use Rattle.board_plan.specs.Planned as planned
use Rattle.board_plan.specs.View.{member as planned_member, net as planned_net}
use Rattle.board_plan.proofs.TableLaws.{planned_at, vector_at}
use Rattle.pin_nets.specs.declared.Pin.{Pin}
use Rattle.board_chips.specs.Planning.{HaveNumbers, strings_from}
use Rattle.board_chips.proofs.PlanningLaws.{AreWiredSoFar, wired_more, wired_none}
use Rattle.board_chips.proofs.planning.all_strings.Goals as goal

pub loop-place-init : goal.loop-place-init
loop-place-init c =
    let w : planned.Wiring = record { members = map planned_member c.args.devices.now; nets = map planned_net c.args.nets.now } in
    subst (AreWiredSoFar w 0) (sym c.new-all.ensures.items) (wired_none w)

pub loop-place-preserved : goal.loop-place-preserved
loop-place-preserved c =
    let w : planned.Wiring = record { members = map planned_member c.args.devices.now; nets = map planned_net c.args.nets.now } in
    let device = c.index-devices-place.result in
    let place = c.loop-place.place in
    let tables = c.in_ok-tables.tables.items in
    let numbers = c.in_ok-numbers.numbers.items in
    let count = length-map c.args.devices.now planned_member in
    let inside : place < length tables = omega (arith, c.loop-place-test.true, c.in_ok-tables.ensures.long, count, length-map tables (λ v. v.items)) in
    let inside_numbers : place < length numbers = omega (arith, c.loop-place-test.true, c.in_ok-numbers.ensures.long, count, length-map numbers (λ v. v.items)) in
    let pins : c.deref.result.now ≡ all_pins w.nets = c.deref.ensures.value ∙ c.in_ok-pins.ensures in
    let numbered : HaveNumbers w.members (all_pins w.nets) (length (all_pins w.nets)) (lists_of numbers) =
    subst (λ (l : List Pin). HaveNumbers w.members l (length l) (lists_of numbers)) pins c.in_ok-numbers.ensures in
    let is_table : c.deref-in-loop-place.result.now ≡ table_at (lists_of tables) place =
    c.deref-in-loop-place.ensures.value ∙ vector_at tables place c.index.result.now inside c.index.ensures in
    let is_numbers : c.deref-in-loop-place-2.result.now ≡ table_at (lists_of numbers) place =
    c.deref-in-loop-place-2.ensures.value ∙ vector_at numbers place c.index-in-loop-place.result.now inside_numbers c.index-in-loop-place.ensures in
    wired_more w (lists_of tables) (lists_of numbers) place (planned_member device) c.loop-place.all.items c.add_strings.new.all.items c.deref-in-loop-place.result.now c.deref-in-loop-place-2.result.now c.cells-cells.result.now c.deref-in-loop-place-3.result.now
    c.requires c.in_ok-tables.ensures numbered (planned_at c.args.devices.now place device c.loop-place-test.true c.index-devices-place.is) c.loop-place.invariant is_table is_numbers
    (c.cells-cells.ensures ∙ ap (λ d. d.cells) c.get.ensures) c.deref-in-loop-place-3.ensures.value c.in_ok-add_strings.ensures

pub returns : goal.returns
returns c =
    let ms = map planned_member c.args.devices.now in
    let all = take_all c.loop-place.place ms (omega (arith, c.loop-place-test.false, length-map c.args.devices.now planned_member)) in
    record {
      strung = c.loop-place.invariant.strung;
      placed = c.loop-place.invariant.placed ∙ ap (strings_from 0) all;
    }
