-- Which port bits the pins of the nets are. A pin is a port bit of a device; the TAP's ports are none.
use Rattle.std.specs.Prelude.{suc, ℕ, Bool, ◌&&◌, ◌==◌, nat_lt, List, [], ◌∷◌, ◌++◌, filter_map, codes, bytes_eq}
use Rattle.std.specs.Option.{option_or}
use Rattle.std.specs.Prelude.{option_and_then, option_map, Option, Some, None, position, slice_get, if◌then◌else◌}
use Rattle.std.specs.List.{list_any}
use Rattle.std.specs.Str.Parse.{digits_value}
use Rattle.jt_limits.specs.Limits.{subscript_limit}
use Rattle.toml.specs.Data.{Members}
use Rattle.bsdl_device.specs.Device.{PortBit, Device}
use Rattle.bsdl_device.specs.Ports.{bit_number}
use Rattle.board_tables.specs.PinTexts.{PinText, pin_of}
use Rattle.board_tables.specs.Fields.{texts_at}
use Rattle.pin_nets.specs.declared.Pin.{Pin}

-- The index that digits write. No description has one above 65,535.
abbrev pub index_of : List ℕ → Option ℕ
index_of digits = if nat_lt (digits_value 10 digits) (suc subscript_limit) then Some (digits_value 10 digits) else None

-- the port bit of this name, in any case, and index
abbrev pub bit_of : Device → List ℕ → Option (List ℕ) → Option ℕ
bit_of d port None = bit_number port None d.ports
bit_of d port (Some digits) = option_and_then (λ index. bit_number port (Some index) d.ports) (index_of digits)

-- unless it is the TAP's
abbrev pub no_tap : Device → ℕ → Option ℕ
no_tap d k = option_and_then (λ (bit : PortBit). if bit.is_tap then None else Some k) (slice_get d.ports k)

abbrev pub pin_bit : Device → List ℕ → Option (List ℕ) → Option ℕ
pin_bit d port index = option_and_then (no_tap d) (bit_of d port index)

-- the port bit of the device at this place on the board
abbrev pub bit_at : List Device → PinText → ℕ → Option Pin
bit_at ds p place =
    option_and_then (λ d. option_map (λ bit. record { device = place; port = bit }) (pin_bit d p.port p.index))
    (slice_get ds place)

-- The pin that a text names, given the names of all devices and what is described of each.
unfoldable pub pin_at : List (List ℕ) → List Device → List ℕ → Option Pin
pin_at names ds text =
    option_and_then (λ p. option_and_then (bit_at ds p) (position (bytes_eq p.device) names)) (pin_of text)

-- ---- texts that name no pin

abbrev pub unknown_pin : List (List ℕ) → List Device → List (List ℕ) → Option (List ℕ)
unknown_pin names ds [] = None
unknown_pin names ds (text ∷ texts) =
    elim (pin_at names ds text) [ None ↦ Some text | Some p ↦ unknown_pin names ds texts ]

-- the first among the pins of all nets
abbrev pub unknown_in_nets : List (List ℕ) → List Device → List Members → Option (List ℕ)
unknown_in_nets names ds [] = None
unknown_in_nets names ds (t ∷ ts) =
    option_or (unknown_pin names ds (texts_at (codes "pins") t)) (unknown_in_nets names ds ts)

-- ---- pins a second time

abbrev pub same_pin : Pin → Pin → Bool
same_pin p q = (p.device == q.device) && (p.port == q.port)

-- the first text whose pin stands before it, given the pins before
abbrev pub twice : List (List ℕ) → List Device → List Pin → List (List ℕ) → Option (List ℕ)
twice names ds before [] = None
twice names ds before (text ∷ texts) = elim (pin_at names ds text) [
  | None ↦ twice names ds before texts
  | Some p ↦ if list_any (same_pin p) before then Some text else twice names ds (before ++ p ∷ []) texts
]

-- the pins of a net
abbrev pub pins_at : List (List ℕ) → List Device → Members → List Pin
pins_at names ds t = filter_map (pin_at names ds) (texts_at (codes "pins") t)

-- the first among the pins of all nets
abbrev pub twice_in_nets : List (List ℕ) → List Device → List Pin → List Members → Option (List ℕ)
twice_in_nets names ds before [] = None
twice_in_nets names ds before (t ∷ ts) =
    option_or (twice names ds before (texts_at (codes "pins") t))
    (twice_in_nets names ds (before ++ pins_at names ds t) ts)
