use Rattle.std.proofs.Common.{suc, ◌≡◌, ◌≤◌, ℕ, List, map, take}
use Rattle.std.specs.List.{list_any}
use Rattle.jt_limits.specs.Limits.{subscript_limit}
use Rattle.bsdl_values.specs.CellView.{cell_row}
use Rattle.bsdl_entity.specs.Ports.{Port}
use Rattle.bsdl_lookup.specs.declared.port_index.PortIndex.{PortIndex}
use Rattle.bsdl_lookup.specs.Drivers.{driver_at, drives_below, is_below}
use Rattle.bsdl_lookup.specs.Keyed.{AreKeyed}
use Rattle.bsdl_lookup.proofs.drivers.drivers_by_key.Given as goal

abbrev pub invariant-loop-row : goal.invariant-loop-row
invariant-loop-row l =
    (ps : List Port) → AreKeyed l.keyed ps → (s : PortIndex) (n : ℕ) → n ≤ suc subscript_limit → is_below (driver_at l.drivers s) n ≡ list_any (drives_below ps s n) (map cell_row (take l.row-index l.rows))
