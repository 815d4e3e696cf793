-- Ports by their names, and a port bit by its port and its index (IEEE Std 1149.1-2001, Annex B.8.3).
use Rattle.std.specs.Prelude.{ℕ, suc, ◌==◌, Bool, false, ◌&&◌, if◌then◌else◌, List, [], ◌∷◌, Option, Some, None}
use Rattle.std.specs.Prelude.{option_map, option_and_then, unwrap_or, bytes_eq}
use Rattle.bsdl_text.specs.Words.{upper}
use Rattle.bsdl_values.specs.CellRows.{PortName}
use Rattle.bsdl_entity.specs.Ports.{Range, Port}
use Rattle.bsdl_entity.specs.PortBits.{bit_at}

-- the first port of a name, in upper case, behind n others, with its range
abbrev pub find_port : ℕ → List Port → List ℕ → Option (ℕ × Option Range)
find_port n [] q = None
find_port n (p ∷ ps) q = if bytes_eq (upper p.name.text) q then Some (n, p.range) else find_port (suc n) ps q

-- the port and the index of a bit, where the port has the index
abbrev pub port_index_at : Option ℕ → ℕ × Option Range → Option (ℕ × ℕ)
port_index_at index port = option_map (λ k. (port.0, unwrap_or index 0)) (bit_at port.1 index)

abbrev pub port_index_of : List Port → PortName → Option (ℕ × ℕ)
port_index_of ps name = option_and_then (port_index_at name.index) (find_port 0 ps name.name)

abbrev pub same_port_index : Option (ℕ × ℕ) → Option (ℕ × ℕ) → Bool
same_port_index (Some a) (Some b) = a.0 == b.0 && a.1 == b.1
same_port_index _ _ = false

abbrev pub at_name : {A : Type 0} → List ℕ → A → List ℕ → Option A
at_name name x q = if bytes_eq name q then Some x else None
