use Rattle.std.proofs.Common.{rules, ◌≡◌, None, length, replicate, ap, ◌∙◌}
use Rattle.std.proofs.lemmas.List.{map-append}
use Rattle.board_plan.specs.AllCellNets.{lists_of}
use Rattle.board_plan.proofs.TableLaws.{empty_more}
use Rattle.board_plan.proofs.all_cells.no_nets.Goals as goal

pub loop-device-preserved : goal.loop-device-preserved
loop-device-preserved c =
    let table = c.in_ok-from_elem.field-0 in
    let x = c.device-item.result in
    let empty : table.items ≡ replicate (length x.device.ports) None =
    c.in_ok-from_elem.ensures.items_if_clones_equal (λ y h. search rules) ∙ ap (λ n. replicate n None) (c.port_count.ensures ∙ ap (λ d. length d.ports) c.get.ensures) in
    empty_more c.args.devices.now c.loop-device.device-index x (lists_of c.loop-device.tables.items) (lists_of c.push.new.self.items) table.items c.loop-device-test.true c.device-item.is c.loop-device.invariant
    empty (ap lists_of c.in_ok-push.ensures.items ∙ map-append _ c.loop-device.tables.items _)
