use Rattle.std.proofs.Common.{◌≡◌, ◌<◌, length, map, ap, ◌∙◌, arith, take_all}
use Rattle.std.proofs.lemmas.List.{length-map, map-append}
use Rattle.board_plan.specs.AllCellNets.{all_cell_nets, lists_of, table_at}
use Rattle.board_plan.specs.View.{member as planned_member, net as planned_net}
use Rattle.board_plan.proofs.TableLaws.{cells_push, length-all_cell_nets, planned_at, vector_at}
use Rattle.board_plan.proofs.all_cells.all_cell_nets.Goals as goal

pub loop-place-preserved : goal.loop-place-preserved
loop-place-preserved c =
    let members = map planned_member c.args.devices.now in
    let nets = map planned_net c.args.nets.now in
    let device = c.index-devices-place.result in
    let tables = c.in_ok-tables.tables.items in
    let inside : c.loop-place.place < length tables =
    omega (arith, c.loop-place-test.true, c.in_ok-tables.ensures.long, length-map c.args.devices.now planned_member, length-map tables (λ v. v.items)) in
    let is_table : c.deref.result.now ≡ table_at (lists_of tables) c.loop-place.place =
    c.deref.ensures.value ∙ vector_at tables c.loop-place.place c.index.result.now inside c.index.ensures in
    cells_push nets members (lists_of tables) c.loop-place.place (planned_member device) (lists_of c.loop-place.all.items) (lists_of c.push.new.self.items) c.deref.result.now c.in_ok-nets_by.field-0.items
    c.cells.result.now c.requires c.in_ok-tables.ensures (planned_at c.args.devices.now c.loop-place.place device c.loop-place-test.true c.index-devices-place.is) c.loop-place.invariant is_table
    (c.cells.ensures ∙ ap (λ d. d.cells) c.get.ensures) c.in_ok-nets_by.ensures (ap lists_of c.in_ok-push.ensures.items ∙ map-append _ c.loop-place.all.items _)

pub returns : goal.returns
returns c =
    let ms = map planned_member c.args.devices.now in
    let nets = map planned_net c.args.nets.now in
    c.loop-place.invariant ∙ take_all c.loop-place.place (all_cell_nets nets 0 ms)
    (omega (arith, c.loop-place-test.false, length-map c.args.devices.now planned_member, length-all_cell_nets nets 0 ms))
