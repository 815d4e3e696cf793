use Rattle.std.proofs.Common.{◌≡◌, List, length, ap, subst, ◌∙◌}
use Rattle.bsdl_device.specs.declared.Cell.{Cell}
use Rattle.bsdl_device.specs.Device.{Device}
use Rattle.boundary.specs.Cells.{AreDrivers}
use Rattle.fault_events.proofs.tables.driver_table.Goals as goal

pub returns : goal.returns
returns c =
    let d = c.args.device.now in
    let count : c.port_count.result ≡ length d.device.ports = c.port_count.ensures ∙ ap (λ (x : Device). length x.ports) c.get-its.ensures in
    let cells : c.cells.result.now ≡ d.device.cells = c.cells.ensures ∙ ap (λ (x : Device). x.cells) c.get-its.ensures in
    record {
      long = c.in_ok-table.ensures.long ∙ count;
      drivers = subst (λ (cs : List Cell). AreDrivers cs c.in_ok-table.table.items) cells c.in_ok-table.ensures.drivers;
    }
