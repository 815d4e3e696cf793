use Rattle.std.proofs.Common.{◌<◌, length, ap, ◌∙◌, arith}
use Rattle.bsdl_device.specs.Device.{Device}
use Rattle.board_description.proofs.TextLaws.{places_step}
use Rattle.board_description.proofs.nets.put_places.Goals as goal

pub loop-device-preserved : goal.loop-device-preserved
loop-device-preserved c =
    let d = c.device-item.result in
    let inside : c.loop-device.device-index < length c.args.devices.now = omega (arith, c.loop-device-test.true) in
    let long = c.instruction_length.ensures ∙ ap (λ (x : Device). x.instruction_length) c.get.ensures in
    let many = ap length c.cells.ensures ∙ ap (λ (x : Device). length x.cells) c.get-in-loop-device.ensures in
    record {
      all = places_step c.args.devices.now c.loop-device.device-index d c.loop-device.instruction c.loop-device.boundary c.instruction_length.result (length c.cells.result.now)
          c.deref.result.now c.loop-device.text.items c.put_place.new.text.items _ inside c.device-item.is c.deref.ensures long many c.in_ok-put_place.ensures c.loop-device.invariant.all;
      few_instruction = omega (arith, c.loop-device.invariant.few_instruction);
      few_boundary = omega (arith, c.loop-device.invariant.few_boundary);
    }
