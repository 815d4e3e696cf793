use Rattle.std.proofs.Common.{◌≡◌, ◌++◌, ℕ, map, drop}
use Rattle.board_plan.specs.CellNets.{HasNets}
use Rattle.board_plan.specs.View.{net as planned_net}
use Rattle.board_description.specs.Described.{port_lines}
use Rattle.board_description.proofs.settings.put_ports.Given as goal

-- the lines so far, with those to come, are all
abbrev pub invariant-loop-port : goal.invariant-loop-port
invariant-loop-port l = (place : ℕ) → HasNets place (map planned_net l.nets) l.table
    → l.text.items ++ port_lines (map planned_net l.nets) place l.name l.port (drop l.port l.device.ports)
    ≡ l.initial.text.items ++ port_lines (map planned_net l.nets) place l.name 0 l.device.ports
