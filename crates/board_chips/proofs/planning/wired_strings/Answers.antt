use Rattle.std.proofs.Common.{◌≡◌, ◌<◌, Some, length, map, get_or, slice_get, refl, ap, arith}
use Rattle.std.proofs.lemmas.List.{length-map}
use Rattle.std.proofs.lemmas.Option.{slice_get_read}
use Rattle.board_plan.specs.Planned as planned
use Rattle.board_plan.specs.View.{member as planned_member, net as planned_net}
use Rattle.board_chips.specs.Planning.{strings_of}
use Rattle.board_chips.specs.Strings.{placed_of}
use Rattle.board_chips.proofs.PlanningLaws.{picked_more, strung_more}
use Rattle.board_chips.proofs.planning.wired_strings.Goals as goal

pub loop-place-preserved : goal.loop-place-preserved
loop-place-preserved c =
    let order = c.args.order.now in
    let i = c.loop-place.place-index in
    let all = c.in_ok-all.all.items in
    let members = map planned_member c.args.devices.now in
    let x = c.index.result.now in
    let below = c.requires.order i 0 c.loop-place-test.true in
    let inside : get_or order i 0 < length all = omega (arith, below, ap length c.in_ok-all.ensures.placed, length-map all placed_of) in
    let at : slice_get all (get_or order i 0) ≡ Some x = slice_get_read all (length all) (get_or order i 0) x refl inside c.index.ensures in
    record {
      strung = strung_more (map planned_net c.args.nets.now) (map (λ (m : planned.Member). m.device.cells) members) c.loop-place.strings.items c.push.new.self.items all x (get_or order i 0)
          c.in_ok-all.ensures.strung at c.in_ok-push.ensures.items c.loop-place.invariant.strung;
      placed = picked_more placed_of all (strings_of members) order i c.loop-place.strings.items c.push.new.self.items x c.loop-place-test.true c.in_ok-all.ensures.placed at
          c.in_ok-push.ensures.items c.loop-place.invariant.placed;
    }
