-- The bits of ports, and how a bit is found.
use Rattle.std.specs.Prelude.{ℕ, Bool, true, false, ◌&&◌, ◌==◌, List, [], ◌∷◌, map, Option, Some, None, position}
use Rattle.std.specs.Str.{str_eq_ignore_ascii_case}
use Rattle.std.specs.List.{range_with_len}
use Rattle.bsdl_device.specs.declared.PortMode.{PortMode}
use Rattle.bsdl_device.specs.Device.{Name, PortBit}

-- the bits of a port: the port itself, or those of so many indices from the lowest on
abbrev pub bits_of : Name → PortMode → Bool → Option (ℕ × ℕ) → List PortBit
bits_of name mode is_tap indices = each indices
  where
    bit : Option ℕ → PortBit
    bit i = record { name = name; index = i; mode = mode; is_tap = is_tap }

    each : Option (ℕ × ℕ) → List PortBit
    each None = bit None ∷ []
    each (Some r) = map (λ i. bit (Some i)) (range_with_len r.0 r.1)

abbrev pub same_index : Option ℕ → Option ℕ → Bool
same_index None None = true
same_index (Some i) (Some j) = i == j
same_index _ _ = false

-- the port bit of this name, in any case, and index
abbrev pub is_bit : List ℕ → Option ℕ → PortBit → Bool
is_bit name index bit = str_eq_ignore_ascii_case name bit.name && same_index index bit.index

-- its number among the port bits
abbrev pub bit_number : List ℕ → Option ℕ → List PortBit → Option ℕ
bit_number name index bits = position (is_bit name index) bits
