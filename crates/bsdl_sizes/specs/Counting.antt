-- How many port bits are left, as they are counted down.
use Rattle.std.specs.Prelude.{ℕ, ◌-◌, nat_le, if◌then◌else◌, List, [], ◌∷◌, Option, Some, None, Result, Ok, Err}
use Rattle.jt_limits.specs.Limits.{subscript_limit}
use Rattle.bsdl_text.specs.Cutting.{Lexeme}
use Rattle.bsdl_entity.specs.Ports.{Port, Range}
use Rattle.bsdl_entity.specs.PortBits.{highest, width}

-- how many bits a port has whose indices are within their limit
abbrev pub width_within : Option Range → Option ℕ
width_within range = if nat_le (highest range) subscript_limit then Some (width range) else None

-- so many bits less those of a port, where there are as many
abbrev pub bits_left : ℕ → Option ℕ → Option ℕ
bits_left most None = None
bits_left most (Some n) = if nat_le n most then Some (most - n) else None

-- what is made of so many, or this place
abbrev pub or_at : ℕ → Option ℕ → (ℕ → Result ℕ ℕ) → Result ℕ ℕ
or_at start None next = Err start
or_at start (Some n) next = next n

-- how many of so many bits ports leave; or the first port with an index that is too large, or with too many bits
abbrev pub left_behind : ℕ → List Port → Result ℕ ℕ
left_behind most [] = Ok most
left_behind most (p ∷ ps) = or_at p.name.start (bits_left most (width_within p.range)) (λ left. left_behind left ps)

-- the same of ports of these names that have so many bits each
abbrev pub names_behind : ℕ → Option ℕ → List Lexeme → Result ℕ ℕ
names_behind most width [] = Ok most
names_behind most width (n ∷ ns) = or_at n.start (bits_left most width) (λ left. names_behind left width ns)
