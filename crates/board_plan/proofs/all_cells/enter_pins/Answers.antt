use Rattle.std.proofs.Common.{◌≡◌, get_or, ap, ◌∙◌}
use Rattle.pin_nets.specs.declared.Pin.{Pin}
use Rattle.board_plan.specs.AllCellNets.{lists_of, with_pin}
use Rattle.board_plan.proofs.TableLaws.{entered_pin}
use Rattle.board_plan.proofs.all_cells.enter_pins.Goals as goal

pub loop-pin-preserved : goal.loop-pin-preserved
loop-pin-preserved c =
    let none : Pin = record { device = 0; port = 0 } in
    let pin : Pin = get_or c.args.pins.now c.loop-pin.pin-index none in
    entered_pin c.args.net c.loop-pin.pin-index c.args.pins.now none (lists_of c.args.tables.now) (lists_of c.loop-pin.tables) (lists_of c.enter_pin.new.tables) c.loop-pin-test.true c.loop-pin.invariant c.enter_pin.ensures
