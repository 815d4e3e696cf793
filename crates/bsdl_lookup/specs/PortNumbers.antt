-- The number of a port bit that a cell names (IEEE Std 1149.1-2001, Annex B.8.3 and B.8.14).
use Rattle.std.specs.Prelude.{ℕ, ◌+◌, ◌-◌, if◌then◌else◌, List, [], ◌∷◌, Option, None, option_map}
use Rattle.std.specs.Prelude.{bytes_eq}
use Rattle.bsdl_text.specs.Words.{upper}
use Rattle.bsdl_values.specs.CellRows.{PortName}
use Rattle.bsdl_entity.specs.Ports.{Port}
use Rattle.bsdl_entity.specs.PortBits.{width, bit_at}

-- the number of the port bit of this name, behind n others
abbrev pub bit_number : ℕ → List Port → PortName → Option ℕ
bit_number n [] name = None
bit_number n (p ∷ ps) name =
    if bytes_eq (upper p.name.text) name.name then option_map (λ k. n + k) (bit_at p.range name.index)
    else bit_number (n + width p.range) ps name
