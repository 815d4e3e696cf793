use Rattle.std.proofs.Common.{[], ◌∷◌, map, refl, ap, ◌∙◌}
use Rattle.std.proofs.lemmas.List.{map-append}
use Rattle.board_plan.specs.View.{member}
use Rattle.jt_board.proofs.BareLaws.{bare_push}
use Rattle.jt_board.proofs.bare.bare_devices.Goals as goal

pub loop-i-preserved : goal.loop-i-preserved
loop-i-preserved c =
    bare_push c.loop-i.i _ (map member c.loop-i.devices.items) (map member c.push.new.self.items) (member c.in_ok-planned_device.field-0) refl c.loop-i.invariant
    c.in_ok-planned_device.ensures (ap (map member) c.in_ok-push.ensures.items ∙ map-append member c.loop-i.devices.items (c.in_ok-planned_device.field-0 ∷ []))
