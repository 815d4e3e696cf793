use Rattle.std.proofs.Common.{◌≡◌, ◌<◌, ℕ, false, List, [], ◌∷◌, ◌++◌, length, Option, None, sym, ap, ap₂, ◌∙◌, arith}
use Rattle.std.proofs.lemmas.List.{get_or_default}
use Rattle.bsdl_device.specs.declared.Cell.{Cell}
use Rattle.bsdl_device.specs.Device.{Device}
use Rattle.boundary.specs.Cells.{driver_from}
use Rattle.board_plan.specs.View.{member as planned_member}
use Rattle.board_faults.specs.declared.sight.PortSight.{PortSight}
use Rattle.board_faults.specs.Sight.{drives_by}
use Rattle.board_faults.specs.Together.{driven, port_sight}
use Rattle.board_faults.proofs.Marking.{range_more}
use Rattle.board_faults.proofs.sight.port_sights.Goals as goal

pub loop-port-preserved : goal.loop-port-preserved
loop-port-preserved c =
    let d = c.args.device.now in
    let m = planned_member d in
    let port = c.loop-port.port in
    let count : c.port_count-count.result ≡ length d.device.ports = c.port_count-count.ensures ∙ ap (λ (x : Device). length x.ports) c.get-its.ensures in
    let below : port < c.port_count-count.result = c.loop-port-test.true in
    let cells : c.cells.result.now ≡ d.device.cells = c.cells.ensures ∙ ap (λ (x : Device). x.cells) c.get-its.ensures in
    let here : c.cells-in-loop-port.result.now ≡ d.device.cells = c.cells-in-loop-port.ensures ∙ ap (λ (x : Device). x.cells) c.get-its.ensures in
    let inside : port < length c.in_ok-drivers.drivers.items = omega (arith, below, c.in_ok-drivers.ensures.long) in
    let driver : c.index.result.now ≡ driver_from port 0 d.device.cells =
    c.index.ensures ∙ get_or_default c.in_ok-drivers.drivers.items port c.index.result.now None inside ∙ c.in_ok-drivers.ensures.drivers.each port inside
    ∙ ap (driver_from port 0) cells in
    let can : c.can_drive.result ≡ (port_sight m port).can =
    c.can_drive.ensures ∙ ap₂ (λ (cs : List Cell) (o : Option ℕ). driven (drives_by cs o)) here driver in
    let there : port < length c.in_ok-read.read.items = omega (arith, below, count, c.in_ok-read.ensures.long) in
    let read : c.index-in-loop-port.result.now ≡ (port_sight m port).read =
    c.index-in-loop-port.ensures ∙ get_or_default c.in_ok-read.read.items port c.index-in-loop-port.result.now false there
    ∙ c.in_ok-read.ensures.each port (omega (arith, below, count)) in
    let its : record { can = c.can_drive.result; read = c.index-in-loop-port.result.now } ≡ port_sight m port =
    λ i. record { can = can i; read = read i } in
    c.in_ok-push.ensures.items ∙ ap₂ (λ (xs : List PortSight) (x : PortSight). xs ++ x ∷ []) c.loop-port.invariant its
    ∙ sym (range_more (port_sight m) port)
