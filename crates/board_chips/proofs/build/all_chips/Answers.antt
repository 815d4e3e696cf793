use Rattle.std.proofs.Common.{◌<◌, take, length, map, get_or, refl, ap, sym, ◌∙◌, rules, arith}
use Rattle.std.proofs.lemmas.Grind.{common_steps}
use Rattle.std.proofs.lemmas.List.{length-map, length_push}
use Rattle.board_plan.specs.Planned.{HasCore}
use Rattle.board_plan.specs.Planned as planned
use Rattle.board_plan.specs.View.{member as planned_member, net as planned_net}
use Rattle.chip_instructions.specs.Fitting.{IsFormed}
use Rattle.board_chips.specs.Building.{wired_chips_of}
use Rattle.board_chips.proofs.BuildLaws.{all_at, all_fit, chip_push, chips_end, made, turn, turn_at, turns_end}
use Rattle.board_chips.proofs.build.all_chips.Goals as goal

pub all_cell_nets-requires : goal.all_cell_nets-requires
all_cell_nets-requires c = all_fit (map planned_member c.args.devices.now) (map planned_net c.args.nets.now) c.requires.pins

pub bounds-devices-place : goal.bounds-devices-place
bounds-devices-place c =
    let here = turn c.into_iter-cells-iterator.result c.loop-cells.cells-iterator c.next.new.self c.in_ok-all_cells.all_cells
    c.into_iter-cells-iterator.ensures.into_iter_gives.0 c.into_iter-cells-iterator.ensures.into_iter_gives.1
    c.loop-cells.yielded c.loop-cells.yielded_by c.next.result c.in-Some.cells c.in-Some.is c.next.ensures.steps in
    let places = made (map planned_net c.args.nets.now) c.args.devices.now c.in_ok-all_cells.all_cells.items c.loop-cells.chips.items (length c.loop-cells.yielded) c.len-place.result
    c.in_ok-all_cells.ensures c.loop-cells.invariant here.0 (omega (arith, c.len-place.ensures, c.loop-cells.chips.ok.0)) in
    places.1

pub offset_bounds-devices-place : goal.offset_bounds-devices-place
offset_bounds-devices-place c =
    let here = turn c.into_iter-cells-iterator.result c.loop-cells.cells-iterator c.next.new.self c.in_ok-all_cells.all_cells
    c.into_iter-cells-iterator.ensures.into_iter_gives.0 c.into_iter-cells-iterator.ensures.into_iter_gives.1
    c.loop-cells.yielded c.loop-cells.yielded_by c.next.result c.in-Some.cells c.in-Some.is c.next.ensures.steps in
    let places = made (map planned_net c.args.nets.now) c.args.devices.now c.in_ok-all_cells.all_cells.items c.loop-cells.chips.items (length c.loop-cells.yielded) c.len-place.result
    c.in_ok-all_cells.ensures c.loop-cells.invariant here.0 (omega (arith, c.len-place.ensures, c.loop-cells.chips.ok.0)) in
    let inside : c.len-place.result < length c.args.devices.now = places.1 in
    first_of (search rules, grind (arith, common_steps))

pub loop-cells-preserved : goal.loop-cells-preserved
loop-cells-preserved c =
    let ms = map planned_member c.args.devices.now in
    let nets = map planned_net c.args.nets.now in
    let all = c.in_ok-all_cells.all_cells in
    let device = c.index-devices-place.result in
    let i = length c.loop-cells.yielded in
    let here = turn c.into_iter-cells-iterator.result c.loop-cells.cells-iterator c.next.new.self all
    c.into_iter-cells-iterator.ensures.into_iter_gives.0 c.into_iter-cells-iterator.ensures.into_iter_gives.1
    c.loop-cells.yielded c.loop-cells.yielded_by c.next.result c.in-Some.cells c.in-Some.is c.next.ensures.steps in
    let places = made nets c.args.devices.now all.items c.loop-cells.chips.items i c.len-place.result
    c.in_ok-all_cells.ensures c.loop-cells.invariant here.0 (omega (arith, c.len-place.ensures, c.loop-cells.chips.ok.0)) in
    let its = turn_at nets c.args.devices.now all.items i device c.in-Some.cells c.in_ok-all_cells.ensures here
    (c.index-devices-place.is ∙ ap (λ n. get_or c.args.devices.now n device) places.0) in
    chip_push nets ms i (planned_member device) c.loop-cells.chips.items c.push.new.self.items c.in_ok-new.field-0 c.in-Some.cells.items device.device its.at c.loop-cells.invariant refl its.wired c.in_ok-new.ensures
    c.in_ok-push.ensures.items
    ∙ ap (λ n. take n (wired_chips_of nets 0 ms)) (sym (length_push c.loop-cells.yielded c.in-Some.cells))

pub new-requires : goal.new-requires
new-requires c =
    let ms = map planned_member c.args.devices.now in
    let nets = map planned_net c.args.nets.now in
    let all = c.in_ok-all_cells.all_cells in
    let device = c.index-devices-place.result in
    let i = length c.loop-cells.yielded in
    let here = turn c.into_iter-cells-iterator.result c.loop-cells.cells-iterator c.next.new.self all
    c.into_iter-cells-iterator.ensures.into_iter_gives.0 c.into_iter-cells-iterator.ensures.into_iter_gives.1
    c.loop-cells.yielded c.loop-cells.yielded_by c.next.result c.in-Some.cells c.in-Some.is c.next.ensures.steps in
    let places = made nets c.args.devices.now all.items c.loop-cells.chips.items i c.len-place.result
    c.in_ok-all_cells.ensures c.loop-cells.invariant here.0 (omega (arith, c.len-place.ensures, c.loop-cells.chips.ok.0)) in
    let its = turn_at nets c.args.devices.now all.items i device c.in-Some.cells c.in_ok-all_cells.ensures here
    (c.index-devices-place.is ∙ ap (λ n. get_or c.args.devices.now n device) places.0) in
    record {
      formed = all_at (λ (m : planned.Member). IsFormed m.device) ms i (planned_member device) c.requires.formed its.at;
      core = all_at HasCore ms i (planned_member device) c.requires.cores its.at;
      nets = ap length its.wired ∙ length-map device.device.cells _;
    }

pub returns : goal.returns
returns c =
    let ms = map planned_member c.args.devices.now in
    let nets = map planned_net c.args.nets.now in
    chips_end nets ms c.loop-cells.chips.items (length c.loop-cells.yielded) c.loop-cells.invariant
    (turns_end c.into_iter-cells-iterator.result c.loop-cells.cells-iterator c.next.new.self nets c.args.devices.now c.in_ok-all_cells.all_cells
    c.into_iter-cells-iterator.ensures.into_iter_gives.0 c.into_iter-cells-iterator.ensures.into_iter_gives.1
    c.in_ok-all_cells.ensures c.loop-cells.yielded c.loop-cells.yielded_by c.next.result c.in-None.is c.next.ensures.steps)
