use Rattle.std.proofs.Common.{◌≡◌, Bool, true, false, ◌&&◌, not, map, if◌then◌else◌, ap, ◌∙◌}
use Rattle.std.specs.List.{list_any}
use Rattle.pin_nets.specs.declared.Level.TheVariants.{One, Zero}
use Rattle.pin_nets.specs.Levels.{drive_at, is_strong}
use Rattle.pin_nets.proofs.Leading.{list_any-map}
use Rattle.pin_nets.proofs.ruled.led_by.Goals as goal

pub returns : goal.returns
returns c =
    let drives = drive_at c.args.drives.now in
    let pins = c.args.pins.now in
    let ones : c.any_drives.result ≡ list_any (is_strong true) (map drives pins) = c.any_drives.ensures ∙ list_any-map (is_strong true) drives pins in
    let zeros : c.any_drives-2.result ≡ list_any (is_strong false) (map drives pins) = c.any_drives-2.ensures ∙ list_any-map (is_strong false) drives pins in
    c.lead.ensures ∙ ap (λ (b : Bool). if b && not c.any_drives-2.result then One else Zero) ones
    ∙ ap (λ (b : Bool). if list_any (is_strong true) (map drives pins) && not b then One else Zero) zeros
