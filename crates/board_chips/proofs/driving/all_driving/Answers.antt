use Rattle.std.proofs.Common.{◌≡◌, ◌<◌, Some, length, map, slice_get, refl}
use Rattle.std.proofs.lemmas.Option.{slice_get_read}
use Rattle.board_plan.specs.Planned.{all_pins}
use Rattle.board_chips.specs.Driving.{cells_of, driving_of}
use Rattle.board_chips.proofs.DrivingLaws.{driver_by_chip, one_more_pin}
use Rattle.board_chips.proofs.PutLaws.{device_below}
use Rattle.board_chips.proofs.driving.all_driving.Goals as goal

pub loop-k-preserved : goal.loop-k-preserved
loop-k-preserved c =
    let chips = c.args.chips.now in
    let pins = all_pins c.args.wiring.now.nets in
    let pin = c.pin-pin.result in
    let within : pin.device < length chips = device_below (length chips) pins c.loop-k.k pin c.requires c.pin-pin.ensures in
    let there : slice_get chips pin.device ≡ Some c.index-chips-pin.result =
    slice_get_read chips (length chips) pin.device c.index-chips-pin.result refl within c.index-chips-pin.is in
    one_more_pin (map cells_of chips) pins c.loop-k.k pin c.driver-driver.result c.loop-k.driving.items c.enter.new.driving.items
    (driving_of chips c.args.wiring.now.nets) c.pin-pin.ensures
    (driver_by_chip chips pin c.index-chips-pin.result c.driver-driver.result there c.driver-driver.ensures)
    c.in_ok-enter.ensures c.loop-k.invariant
