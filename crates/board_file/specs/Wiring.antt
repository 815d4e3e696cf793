-- What a board file says, given the files that it names: the board's devices and nets, or why it is refused.
use Rattle.std.specs.Prelude.{◌≡◌, ℕ, ◌||◌, nat_lt, List, [], ◌∷◌, ◌++◌, map, length, filter_map, slice_get}
use Rattle.std.specs.List.{flat_map}
use Rattle.std.specs.Option.{option_or}
use Rattle.std.specs.Prelude.{codes, option_map, Option, Some, None, Result, Ok, Err, if◌then◌else◌}
use Rattle.toml.specs.Data.{Members}
use Rattle.jt_limits.specs.declared.Limits.{Limits}
use Rattle.jt_limits.specs.Limits.{limits}
use Rattle.bsdl_device.specs.Device.{Device}
use Rattle.board_loops.specs.Loops.{IsFirstOnLoop}
use Rattle.board_tables.specs.FollowTexts.{target_text}
use Rattle.board_tables.specs.Fields.{name_at, tables_at, texts_at}
use Rattle.board_tables.specs.Faults.{unfit}
use Rattle.board_tables.specs.declared.keys.Known.{Known}
use Rattle.board_parts.specs.Files.{File, device_at, devices_of, missing_in, refused_in}
use Rattle.board_tables.specs.Files.{file_names}
use Rattle.board_plan.specs.Planned.{Member, Wiring}
use Rattle.board_parts.specs.Parts.{known_of, member_of, net_of}
use Rattle.board_parts.specs.Pins.{unknown_in_nets, twice_in_nets}
use Rattle.board_loops.specs.Depending.{dependencies}

-- ---- the board that the tables say

abbrev pub member_at : (List ℕ → Option Device) → List File → Members → Option Member
member_at says files t = option_map (member_of t) (device_at says files t)

abbrev pub wiring_of : (List ℕ → Option Device) → List File → Members → Wiring
wiring_of says files t =
    let devices = tables_at (codes "device") t in
    record {
      members = filter_map (member_at says files) devices;
      nets = map (net_of (map name_at devices) (devices_of says files devices)) (tables_at (codes "net") t);
    }

-- ---- why it is refused

pub data Fault : Type 0 where
  BadField : (key : List ℕ) → Fault
  UnknownFile : (name : List ℕ) → Fault
  -- this description is refused
  Bsdl : (text : List ℕ) → Fault
  UnknownPin : (text : List ℕ) → Fault
  PinTwice : (text : List ℕ) → Fault
  TooLarge : Fault

-- too many devices or nets
abbrev pub large_within : Limits → ℕ → ℕ → Option Fault
large_within l devices nets = if nat_lt l.devices devices || nat_lt l.nets nets then Some TooLarge else None

-- of the pins, given the names of the devices and what is described of each
abbrev pub wire_fault_within : Limits → List (List ℕ) → List Device → List Members → Option Fault
wire_fault_within l names ds nets =
    option_or (option_map UnknownPin (unknown_in_nets names ds nets))
    (option_or (option_map PinTwice (twice_in_nets names ds [] nets)) (large_within l (length names) (length nets)))

-- what the keys of a device are judged by, where its description is there and not refused
abbrev pub known_at : (List ℕ → Option Device) → List File → Members → Option Known
known_at says files t = option_map (known_of t) (device_at says files t)

-- of the descriptions that are named
abbrev pub file_fault : (List ℕ → Option Device) → List File → List (List ℕ) → Option Fault
file_fault says files names =
    option_or (option_map UnknownFile (missing_in files names)) (option_map Bsdl (refused_in says files names))

-- Of the whole: the first in the order of the cases, and in each the first device, net and pin.
abbrev pub fault_within : Limits → (List ℕ → Option Device) → List File → Members → Option Fault
fault_within l says files t =
    let devices = tables_at (codes "device") t in
    option_or (option_map BadField (unfit (map (known_at says files) devices) t))
    (option_or (file_fault says files (file_names t))
    (wire_fault_within l (map name_at devices) (devices_of says files devices) (tables_at (codes "net") t)))

-- the wiring, or why the table and the files make none
abbrev pub makes_within : Limits → (List ℕ → Option Device) → List File → Members → Result Wiring Fault
makes_within l says files t =
    elim (fault_within l says files t) [ None ↦ Ok (wiring_of says files t) | Some f ↦ Err f ]

-- ---- within the limits that stand

abbrev pub large : ℕ → ℕ → Option Fault
large devices nets = large_within limits devices nets

abbrev pub wire_fault : List (List ℕ) → List Device → List Members → Option Fault
wire_fault names ds nets = wire_fault_within limits names ds nets

abbrev pub fault_of : (List ℕ → Option Device) → List File → Members → Option Fault
fault_of says files t = fault_within limits says files t

abbrev pub makes : (List ℕ → Option Device) → List File → Members → Result Wiring Fault
makes says files t = makes_within limits says files t

-- ---- cores that follow themselves

-- the targets of a device's strings, each as a pin: its name, a point, and the target as the string spells it
abbrev pub targets_of : Members → List (List ℕ)
targets_of t = map (λ text. name_at t ++ 46 ∷ target_text text) (texts_at (codes "follow") t)

-- those of all devices, by devices and then strings
abbrev pub targets_in : Members → List (List ℕ)
targets_in t = flat_map targets_of (tables_at (codes "device") t)

-- The first string of the wiring on a loop of nets has this target, given the targets of all.
pub record IsCoreLoop (w : Wiring) (targets : List (List ℕ)) (target : List ℕ) : Type 0 where
  pub place : ℕ
  pub first : IsFirstOnLoop (dependencies w) place
  pub named : slice_get targets place ≡ Some target
