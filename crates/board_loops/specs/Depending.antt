-- Which nets of a planned board depend on which, by the strings of its devices. Nets are numbers: one with a name has
-- its place, and each port bit that none of these joins is a net by itself behind them, device after device.
use Rattle.std.specs.Prelude.{◌≡◌, ℕ, zero, suc, ◌+◌, List, [], ◌∷◌, ◌++◌, length, map, slice_get, slice_index_or}
use Rattle.std.specs.Prelude.{Option, None, option_and_then, unwrap_or}
use Rattle.std.specs.List.{AllByRecursion}
use Rattle.bsdl_device.specs.declared.Cell.{Cell}
use Rattle.board_loops.specs.Loops.{HasNoLoop, IsInOrder}
use Rattle.board_loops.specs.declared.net_loops.Dependency.{Dependency}
use Rattle.board_plan.specs.CellNets.{first_net}
use Rattle.board_plan.specs.Planned.{Member, Wiring}
use Rattle.board_plan.specs.View.{member as planned_member, net as planned_net, wiring}
use Rattle.pin_nets.specs.declared.Follow.{Follow}
use Rattle.board_plan.specs.declared.plan.Plan.{Plan}
use Rattle.board_plan.specs.declared.plan.PlannedDevice.{PlannedDevice}
use Rattle.board_plan.specs.declared.plan.PlannedNet.{PlannedNet}

-- how many port bits the devices before a place have
abbrev pub ports_before : (place : ℕ) → List Member → ℕ
ports_before zero ms = 0
ports_before (suc place) [] = 0
ports_before (suc place) (m ∷ ms) = length m.device.ports + ports_before place ms

-- the number of the net that a port bit of the device at a place is on
abbrev pub net_number : Wiring → (place port : ℕ) → ℕ
net_number w place port =
    unwrap_or (first_net place port 0 w.nets) (length w.nets + ports_before place w.members + port)

-- the port bit that a cell is at; each that a string is for drives one
abbrev pub port_of : List Cell → (cell : ℕ) → ℕ
port_of cells cell = unwrap_or (option_and_then (λ (c : Cell). c.port) (slice_get cells cell)) 0

-- A string of the device at a place makes its target's net depend on its source's net.
abbrev pub dependency : Wiring → (place : ℕ) → List Cell → Follow → Dependency
dependency w place cells f = record {
  target = net_number w place (port_of cells f.cell);
  source = net_number w place f.source;
}

-- of these devices, the first at this place, the strings of each one after another
abbrev pub dependencies_from : Wiring → (place : ℕ) → List Member → List Dependency
dependencies_from w place [] = []
dependencies_from w place (m ∷ ms) =
    map (dependency w place m.device.cells) m.follows ++ dependencies_from w (suc place) ms

-- The strings of the board, by devices and then strings.
abbrev pub dependencies : Wiring → List Dependency
dependencies w = dependencies_from w 0 w.members

-- the board that nets and devices are
abbrev pub wired : List PlannedNet → List PlannedDevice → Wiring
wired nets devices = record { members = map planned_member devices; nets = map planned_net nets }

-- a plan keeps an order of work of its strings
abbrev pub IsOrdered : Plan → Type 0
IsOrdered p = IsInOrder (dependencies (wiring p)) p.order.items

-- ---- by a table of the nets of a device's port bits, and the number of the first of these for where it is on none

abbrev pub number_by : List (Option ℕ) → (first port : ℕ) → ℕ
number_by table first port = unwrap_or (slice_index_or table port None) (first + port)

abbrev pub dependency_by : List (Option ℕ) → (first : ℕ) → List Cell → Follow → Dependency
dependency_by table first cells f = record {
  target = number_by table first (port_of cells f.cell);
  source = number_by table first f.source;
}

-- ---- the law: on a board without strings nothing is on a loop

abbrev pub NoLoopWithoutStrings : Type 0
NoLoopWithoutStrings = (w : Wiring) → AllByRecursion (λ (m : Member). m.follows ≡ []) w.members
    → HasNoLoop (dependencies w)
