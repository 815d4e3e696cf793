-- What is kept of what pins can drive, and of which are read.
use Rattle.std.specs.Prelude.{◌≡◌, ◌<◌, ◌||◌, Bool, false, ℕ, List, [], drop, get_or, length, map, slice_index_or}
use Rattle.std.specs.Prelude.{take, Option}
use Rattle.std.specs.List.{list_any, range_with_len, remove}
use Rattle.pin_nets.specs.Wired.{Net}
use Rattle.boundary.specs.Cells.{is_port}
use Rattle.pin_nets.specs.declared.Pin.{Pin}
use Rattle.board_plan.specs.Planned.{Member}
use Rattle.board_faults.specs.declared.sight.NetSight.{NetSight}
use Rattle.board_faults.specs.declared.sight.PortSight.{PortSight}
use Rattle.board_faults.specs.declared.sight.Sights.{Sights}
use Rattle.board_faults.specs.declared.together.Driven.{Driven}
use Rattle.board_faults.specs.declared.kinds.Way.{Way}
use Rattle.board_faults.specs.declared.kinds.Way.TheVariants as way
use Rattle.board_faults.specs.Faults.{nowhere}
use Rattle.board_faults.specs.Sight.{is_read}
use Rattle.board_faults.specs.Together.{at_driven, can_make, first_of, no_sight, open_differs, port_sight}
use Rattle.board_faults.specs.Together.{pull_differs, second_of, short_differs, some_pair, some_single, stuck_differs}
use Rattle.board_faults.specs.Together.{table}

-- of each port bit of a device
abbrev pub sights_of : Member → List PortSight
sights_of m = map (port_sight m) (range_with_len 0 (length m.device.ports))

-- of each device
abbrev pub all_sights : List Member → List (List PortSight)
all_sights ms = map sights_of ms

-- by what is kept
abbrev pub sight_in : List (List PortSight) → Pin → PortSight
sight_in tables pin = get_or (get_or tables pin.device []) pin.port no_sight

-- of each port bit whether it is read
pub record AreRead (m : Member) (read : List Bool) : Type 0 where
  pub long : length read ≡ length m.device.ports
  pub each : (p : ℕ) → p < length m.device.ports → get_or read p false ≡ is_read m p

-- these port bits are marked beside those that were
pub record Marks (old new : List Bool) (ports : List (Option ℕ)) : Type 0 where
  pub long : length new ≡ length old
  pub each : (p : ℕ) → p < length old → get_or new p false ≡ (get_or old p false || list_any (is_port p) ports)

-- what pins can make, and whether one is read, by what is kept
abbrev pub makes_in : List (List PortSight) → List Pin → Driven → Bool
makes_in tables pins = can_make (map (λ p. (sight_in tables p).can) pins)

abbrev pub any_read_in : List (List PortSight) → List Pin → Bool
any_read_in tables pins = list_any (λ p. (sight_in tables p).read) pins

-- whether a way shows, by what is kept
abbrev pub shows_of : List (List PortSight) → (net other : Net) → Way → Bool
shows_of tables n o (way.Pull net) =
    some_single (makes_in tables n.pins) (pull_differs n.pull (any_read_in tables n.pins))
shows_of tables n o (way.Stuck net bit) =
    some_single (makes_in tables n.pins) (stuck_differs n.pull bit (any_read_in tables n.pins))
shows_of tables n o (way.Open net pin bit) =
    let alone = take 1 (drop pin n.pins) in
    let rest = remove n.pins pin in
    some_pair (makes_in tables alone) (makes_in tables rest)
    (open_differs n.pull bit (any_read_in tables alone) (any_read_in tables rest))
shows_of tables n o (way.Short first second winner) =
    some_pair (makes_in tables n.pins) (makes_in tables o.pins)
    (short_differs winner n.pull o.pull (any_read_in tables n.pins) (any_read_in tables o.pins))

abbrev pub shows_in : List (List PortSight) → List Net → Way → Bool
shows_in tables nets its_way =
    shows_of tables (slice_index_or nets (first_of its_way) nowhere) (slice_index_or nets (second_of its_way) nowhere)
    its_way

-- ---- by what is kept of nets

-- what the pins of a net can make, and whether one is read
abbrev pub net_sight : List (List PortSight) → Net → NetSight
net_sight tables n = record { can = table (makes_in tables n.pins); read = any_read_in tables n.pins }

-- what is kept of the devices and of the nets of a board
pub record AreSights (ms : List Member) (ns : List Net) (s : Sights) : Type 0 where
  pub ports : map (λ t. t.items) s.ports.items ≡ all_sights ms
  pub nets : s.nets.items ≡ map (net_sight (all_sights ms)) ns

abbrev pub net_unseen : NetSight
net_unseen = record { can = table (can_make []); read = false }

abbrev pub shows_with : List (List PortSight) → (one other : NetSight) → (net second : Net) → Way → Bool
shows_with tables s t n o (way.Pull net) = some_single (at_driven s.can) (pull_differs n.pull s.read)
shows_with tables s t n o (way.Stuck net bit) = some_single (at_driven s.can) (stuck_differs n.pull bit s.read)
shows_with tables s t n o (way.Open net pin bit) = shows_of tables n o (way.Open net pin bit)
shows_with tables s t n o (way.Short first second winner) =
    some_pair (at_driven s.can) (at_driven t.can) (short_differs winner n.pull o.pull s.read t.read)

abbrev pub shows_by : Sights → List Net → Way → Bool
shows_by s nets its_way =
    shows_with (map (λ t. t.items) s.ports.items)
    (slice_index_or s.nets.items (first_of its_way) net_unseen)
    (slice_index_or s.nets.items (second_of its_way) net_unseen)
    (slice_index_or nets (first_of its_way) nowhere) (slice_index_or nets (second_of its_way) nowhere) its_way
