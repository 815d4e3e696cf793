-- The numbers of port bits.
use Rattle.std.specs.Prelude.{ℕ, ◌+◌, List, [], ◌∷◌, Option, Some, None, unwrap_or}
use Rattle.bsdl_entity.specs.Ports.{Port}
use Rattle.bsdl_entity.specs.PortBits.{width}

-- the number of the first bit of each port, behind m others
abbrev pub firsts : ℕ → List Port → List ℕ
firsts m [] = []
firsts m (p ∷ ps) = m ∷ firsts (m + width p.range) ps

-- the last of a list, if there is one
abbrev pub last_of : {A : Type 0} → List A → Option A
last_of [] = None
last_of (x ∷ xs) = Some (unwrap_or (last_of xs) x)
