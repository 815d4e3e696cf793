-- Board files of the worked rows, as TOML tables, over three devices written out as a reader of texts would give them.
use Rattle.std.specs.Prelude.{ℕ, Bool, true, false, List, [], ◌∷◌, map, replicate, Option, Some, None, codes, bytes_eq}
use Rattle.std.specs.Prelude.{if◌then◌else◌, Result, Ok, Err}
use Rattle.toml.specs.Data.{Data, string, array, table, Items, no_items, item, Members, no_members, member}
use Rattle.bsdl_device.specs.Device.{PortBit, Opcode, Device}
use Rattle.bsdl_device.specs.declared.PortMode.{PortMode}
use Rattle.bsdl_device.specs.declared.PortMode.TheVariants.{In, Out, Linkage}
use Rattle.bsdl_device.specs.declared.Function.{Function}
use Rattle.bsdl_device.specs.declared.Function.TheVariants.{Input, Output2, Output3, Control}
use Rattle.bsdl_device.specs.declared.Disabled.TheVariants.{Z}
use Rattle.bsdl_device.specs.declared.Cell.{Cell}
use Rattle.pin_nets.specs.declared.Pull.{Pull}
use Rattle.pin_nets.specs.declared.Pin.{Pin}
use Rattle.board_parts.specs.Files.{File}
use Rattle.pin_nets.specs.Wired.{Net}
use Rattle.board_file.specs.Wiring.{Fault, makes}
use Rattle.pin_nets.specs.declared.Follow.{Follow}
use Rattle.board_plan.specs.Planned.{Member, Wiring}

-- ---- devices

abbrev tap_port : List ℕ → PortMode → PortBit
tap_port name mode = record { name = name; index = None; mode = mode; is_tap = true }

abbrev bit_of : List ℕ → Option ℕ → PortMode → PortBit
bit_of name index mode = record { name = name; index = index; mode = mode; is_tap = false }

abbrev opcode : List ℕ → Bool → Bool → Opcode
opcode name low high = record { name = name; patterns = (Some low ∷ Some high ∷ []) ∷ [] }

abbrev q_cell : Function → Bool → Cell
q_cell f true = record {
  function = f;
  port = Some 4;
  control = Some (record { cell = 1; disabling = false; leaves = Z });
}
q_cell f false = record { function = f; port = Some 4; control = None }

-- Two instruction bits, an output Q, an input D, a bus A of indices 2 and 3, a power pin VCC, and a code.
abbrev device_with : List ℕ → Cell → Device
device_with third q = record {
  ports =
      tap_port (codes "TDI") In ∷ tap_port (codes "TMS") In ∷ tap_port (codes "TCK") In ∷ tap_port (codes "TDO") Out
      ∷ bit_of (codes "Q") None Out ∷ bit_of (codes "D") None In
      ∷ bit_of (codes "A") (Some 2) In ∷ bit_of (codes "A") (Some 3) In ∷ bit_of (codes "VCC") None Linkage ∷ [];
  instruction_length = 2;
  opcodes = opcode (codes "BYPASS") true true ∷ opcode (codes "EXTEST") false false ∷ opcode third true false
      ∷ opcode (codes "IDCODE") false true ∷ [];
  capture = true ∷ false ∷ [];
  idcode = Some (true ∷ replicate 31 false);
  usercode = None;
  cells = q ∷ record { function = Control; port = None; control = None }
      ∷ record { function = Input; port = Some 5; control = None } ∷ [];
  private_names = [];
  accesses = [];
  users = [];
  has_trst = false;
}

-- Q is driven through cell 1, or always
abbrev pub k : Device
k = device_with (codes "SAMPLE") (q_cell Output3 true)

abbrev pub kh : Device
kh = device_with (codes "HIGHZ") (q_cell Output2 false)

-- with an instruction that is left out
abbrev pub ki : Device
ki = device_with (codes "INTEST") (q_cell Output3 true)

abbrev pub kr : Device
kr = device_with (codes "RUNBIST") (q_cell Output3 true)

-- what the texts say; any other text is refused
abbrev pub says : List ℕ → Option Device
says text =
    if bytes_eq text (codes "K") then Some k else if bytes_eq text (codes "KH") then Some kh
    else if bytes_eq text (codes "KI") then Some ki else None

abbrev pub files : List File
files = (codes "k", codes "K") ∷ (codes "kh", codes "KH") ∷ (codes "ki", codes "KI") ∷ (codes "bad", codes "X")
    ∷ (codes "k", codes "Y") ∷ []

-- ---- tables

abbrev pub text_member : List ℕ → List ℕ → Members → Members
text_member key value rest = member key (string value) rest

abbrev pub texts : List (List ℕ) → Data
texts ss = array (items ss)
  where
    items : List (List ℕ) → Items
    items [] = no_items
    items (s ∷ ss) = item (string s) (items ss)

abbrev pub tables : List Members → Data
tables ts = array (items ts)
  where
    items : List Members → Items
    items [] = no_items
    items (t ∷ ts) = item (table t) (items ts)

-- a device of this name and description; with a core
abbrev pub device : List ℕ → List ℕ → Members
device name file = text_member (codes "bsdl") file (text_member (codes "name") name no_members)

abbrev pub cored : List ℕ → List ℕ → List ℕ → Members
cored name file core = text_member (codes "bsdl") file
    (text_member (codes "core") core (text_member (codes "name") name no_members))

-- whose core follows these strings
abbrev pub following : List ℕ → List ℕ → List (List ℕ) → Members
following name file strings = text_member (codes "bsdl") file
    (member (codes "follow") (texts strings) (text_member (codes "name") name no_members))

abbrev pub net : List ℕ → List (List ℕ) → Members
net name pins = text_member (codes "name") name (member (codes "pins") (texts pins) no_members)

abbrev pub pulled : List ℕ → List (List ℕ) → List ℕ → Members
pulled name pins pull = text_member (codes "name") name
    (member (codes "pins") (texts pins) (text_member (codes "pull") pull no_members))

abbrev pub file : List Members → List Members → Members
file devices nets = member (codes "device") (tables devices) (member (codes "net") (tables nets) no_members)

-- one device, and the net N of its Q
abbrev pub one_net : Members → Members
one_net d = file (d ∷ []) (net (codes "N") (codes "U1.Q" ∷ []) ∷ [])

-- one device K, and a net of these pins
abbrev pub with_pins : List (List ℕ) → Members
with_pins pins = file (device (codes "U1") (codes "k") ∷ []) (net (codes "N") pins ∷ [])

-- one device K that follows these strings
abbrev pub with_strings : List (List ℕ) → Members
with_strings strings = file (following (codes "U1") (codes "k") strings ∷ []) []

-- ---- what is shown

-- of a board: each device's core, each net's pull and pins
pub record Shown : Type 0 where
  pub cores : List (List Bool)
  pub nets : List (Pull × List Pin)

abbrev shown : Wiring → Shown
shown w = record { cores = map (λ (m : Member). m.core) w.members; nets = map (λ (n : Net). (n.pull, n.pins)) w.nets }

abbrev shown_of : Result Wiring Fault → Result Shown Fault
shown_of (Ok w) = Ok (shown w)
shown_of (Err f) = Err f

-- what a table makes with the files, and what is shown of that
abbrev pub made : Members → Result Wiring Fault
made t = makes says files t

abbrev pub shows : Members → Result Shown Fault
shows t = shown_of (made t)

abbrev pub pin : ℕ → ℕ → Pin
pin device port = record { device = device; port = port }

-- the strings of each device
abbrev strings_in : Result Wiring Fault → Result (List (List Follow)) Fault
strings_in (Ok w) = Ok (map (λ (m : Member). m.follows) w.members)
strings_in (Err f) = Err f

abbrev pub shows_strings : Members → Result (List (List Follow)) Fault
shows_strings t = strings_in (made t)

abbrev pub follow : ℕ → ℕ → Bool → Follow
follow cell source inverted = record { cell = cell; source = source; inverted = inverted }
