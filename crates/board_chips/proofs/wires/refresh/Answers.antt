use Rattle.std.proofs.Common.{◌≡◌, ◌<◌, List, Some, length, map, slice_get, refl, ap, sym, ◌∙◌}
use Rattle.std.proofs.lemmas.Option.{slice_get_read}
use Rattle.pin_nets.specs.Wired.{Net}
use Rattle.board_plan.specs.Planned.{all_pins}
use Rattle.board_model.specs.Nets.{pin_drive}
use Rattle.board_chips.specs.WiringValues.{WiringValue}
use Rattle.board_chips.specs.WiredChips.{held_of}
use Rattle.board_chips.proofs.PutLaws.{pin_by_chip, put_more, device_below}
use Rattle.board_chips.proofs.wires.refresh.Goals as goal

pub loop-k-preserved : goal.loop-k-preserved
loop-k-preserved c =
    let f = pin_drive (map held_of c.args.chips.now) in
    let pins = all_pins c.args.wiring.now.nets in
    let pin = c.pin-pin.result in
    let here : slice_get pins c.loop-k.k ≡ Some pin = ap (λ (ns : List Net). slice_get (all_pins ns) c.loop-k.k) (sym c.loop-k.invariant.nets) ∙ c.pin-pin.ensures in
    let within : pin.device < length c.args.chips.now = device_below (length c.args.chips.now) pins c.loop-k.k pin c.requires here in
    let there : slice_get c.args.chips.now pin.device ≡ Some c.index-chips-pin.result =
    slice_get_read c.args.chips.now (length c.args.chips.now) pin.device c.index-chips-pin.result refl within c.index-chips-pin.is in
    record {
      nets = ap (λ (v : WiringValue). v.nets) c.put.ensures ∙ c.loop-k.invariant.nets;
      drives =
          ap (λ (v : WiringValue). v.drives) c.put.ensures
          ∙ put_more f pins c.args.wiring.now.drives c.loop-k.wiring.drives c.loop-k.k c.drive.result pin (sym c.pin_count-k-end.ensures.drives ∙ c.pin_count-k-end.ensures.count) c.loop-k.invariant.drives here
          (pin_by_chip c.args.chips.now pin c.index-chips-pin.result c.drive.result there c.drive.ensures);
    }
