use Rattle.std.proofs.Common.{◌≡◌, ◌<◌, ◌+◌, length, map, ap, sym, ◌∙◌, take_all, arith}
use Rattle.std.proofs.lemmas.List.{length-map}
use Rattle.board_plan.specs.AllCellNets.{lists_of, table_at}
use Rattle.board_plan.specs.View.{member as planned_member, net as planned_net}
use Rattle.board_plan.proofs.TableLaws.{planned_at, vector_at}
use Rattle.board_loops.specs.Depending.{dependencies_from, wired}
use Rattle.board_loops.proofs.DependingLaws.{gathered_more, none_there}
use Rattle.board_loops.proofs.depending.dependencies.Goals as goal

pub returns-then-not-have_strings : goal.returns-then-not-have_strings
returns-then-not-have_strings c =
    c.new-all.ensures.items ∙ sym (none_there (wired c.args.nets.now c.args.devices.now) 0 c.args.devices.now (sym c.have_strings.ensures ∙ c.if-not-have_strings.true))

pub loop-place-init : goal.loop-place-init
loop-place-init c = record {
  strings = c.new-all.ensures.items;
  number = omega (arith, length-map c.args.nets.now planned_net);
}

pub loop-place-preserved : goal.loop-place-preserved
loop-place-preserved c =
    let w = wired c.args.nets.now c.args.devices.now in
    let device = c.index-devices-place.result in
    let tables = c.in_ok-tables.tables.items in
    let inside : c.loop-place.place < length tables =
    omega (arith, c.loop-place-test.true, c.in_ok-tables.ensures.long, length-map c.args.devices.now planned_member, length-map tables (λ v. v.items)) in
    let is_table : c.deref.result.now ≡ table_at (lists_of tables) c.loop-place.place =
    c.deref.ensures.value ∙ vector_at tables c.loop-place.place c.index.result.now inside c.index.ensures in
    gathered_more w (lists_of tables) c.loop-place.place (planned_member device) c.loop-place.all.items c.add_strings.new.all.items c.deref.result.now c.cells.result.now c.deref-in-loop-place.result.now
    c.loop-place.first _ c.in_ok-tables.ensures c.requires (planned_at c.args.devices.now c.loop-place.place device c.loop-place-test.true c.index-devices-place.is)
    c.loop-place.invariant is_table (c.cells.ensures ∙ ap (λ d. d.cells) c.get-description.ensures) c.deref-in-loop-place.ensures.value c.in_ok-add_strings.ensures
    (c.in_ok-first.ensures ∙ ap (λ n. c.loop-place.first + n) (c.port_count.ensures ∙ ap (λ d. length d.ports) c.get-description.ensures))

pub returns : goal.returns
returns c =
    let w = wired c.args.nets.now c.args.devices.now in
    c.loop-place.invariant.strings
    ∙ ap (dependencies_from w 0) (take_all c.loop-place.place w.members (omega (arith, c.loop-place-test.false, length-map c.args.devices.now planned_member)))
