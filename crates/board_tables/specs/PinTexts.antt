-- Ports and pins as the board file writes them: `Q` or `A(3)`, and `U1.Q` or `U1.A(3)`.
use Rattle.std.specs.Prelude.{◌≡◌, ◌↔◌, ℕ, Bool, true, ◌&&◌, ◌==◌, nat_lt, List, [], ◌∷◌, ◌++◌, length, Option, Some}
use Rattle.std.specs.Prelude.{None, option_map, option_and_then, if◌then◌else◌}
use Rattle.std.specs.List.{list_all, position_or_len, before_first, after_first}
use Rattle.std.specs.Char.{is_ascii_digit}
use Rattle.board_tables.specs.Names.{is_name}

-- a port's name, and the digits of its index, if it has one
pub record PortText : Type 0 where
  pub name : List ℕ
  pub index : Option (List ℕ)

-- a pin's device and its port, and the digits of its index, if it has one
pub record PinText : Type 0 where
  pub device : List ℕ
  pub port : List ℕ
  pub index : Option (List ℕ)

-- some digits
abbrev pub is_number : List ℕ → Bool
is_number ds = nat_lt 0 (length ds) && list_all is_ascii_digit ds

-- ---- as a spelling

abbrev pub index_text : Option (List ℕ) → List ℕ
index_text None = []
index_text (Some ds) = 40 ∷ ds ++ 41 ∷ []

abbrev pub port_text : PortText → List ℕ
port_text p = p.name ++ index_text p.index

abbrev pub pin_text : PinText → List ℕ
pin_text p = p.device ++ 46 ∷ p.port ++ index_text p.index

abbrev pub is_index : Option (List ℕ) → Bool
is_index None = true
is_index (Some ds) = is_number ds

-- the port has a name, and digits are its index
pub record IsPortText (p : PortText) : Type 0 where
  pub name : is_name p.name ≡ true
  pub index : is_index p.index ≡ true

-- the text spells this pin
pub record Spells (text : List ℕ) (p : PinText) : Type 0 where
  pub spelt : text ≡ pin_text p
  pub device : is_name p.device ≡ true
  pub port : is_name p.port ≡ true
  pub index : is_index p.index ≡ true

-- ---- as a reading

-- what stands before and behind the first such byte
abbrev pub split_at : ℕ → List ℕ → Option (List ℕ × List ℕ)
split_at c text =
    if nat_lt (position_or_len (λ b. b == c) text) (length text)
    then Some (before_first (λ b. b == c) text, after_first (λ b. b == c) text)
    else None

-- the digits of an index, behind its `(`
unfoldable pub index_of : List ℕ → Option (List ℕ)
index_of text = option_and_then (λ p. if is_number p.0 && length p.1 == 0 then Some p.0 else None) (split_at 41 text)

abbrev pub indexed : List ℕ → List ℕ → Option PortText
indexed name text =
    if is_name name then option_map (λ ds. record { name = name; index = Some ds }) (index_of text) else None

abbrev pub scalar : List ℕ → Option PortText
scalar name = if is_name name then Some (record { name = name; index = None }) else None

-- the port that a text spells
unfoldable pub port_of : List ℕ → Option PortText
port_of text = elim (split_at 40 text) [ Some p ↦ indexed p.0 p.1 | None ↦ scalar text ]

-- the pin of this device at a port
abbrev pub with_device : List ℕ → PortText → PinText
with_device device p = record { device = device; port = p.name; index = p.index }

unfoldable pub pin_of : List ℕ → Option PinText
pin_of text =
    option_and_then (λ p. if is_name p.0 then option_map (with_device p.0) (port_of p.1) else None) (split_at 46 text)

-- ---- the two are one

-- A text is read as a pin exactly where it spells that pin.
abbrev pub PinsAreReadAsSpelt : Type 0
PinsAreReadAsSpelt = (text : List ℕ) (p : PinText) → (pin_of text ≡ Some p) ↔ Spells text p
