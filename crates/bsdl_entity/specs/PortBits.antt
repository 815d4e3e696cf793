-- The bits of declared ports, by number (IEEE Std 1149.1-2001, Annex B.8.3).
use Rattle.std.specs.Prelude.{ℕ, ◌+◌, ◌-◌, nat_le, ◌&&◌, if◌then◌else◌, Option, Some, None}
use Rattle.bsdl_entity.specs.Ports.{Range}

-- how many bits a port has
abbrev pub width : Option Range → ℕ
width None = 1
width (Some r) = r.high - r.low + 1

abbrev pub highest : Option Range → ℕ
highest None = 0
highest (Some r) = r.high

-- the place of an index among a port's bits
abbrev pub bit_at : Option Range → Option ℕ → Option ℕ
bit_at None None = Some 0
bit_at None (Some i) = None
bit_at (Some r) None = None
bit_at (Some r) (Some i) = if nat_le r.low i && nat_le i r.high then Some (i - r.low) else None
