-- Ports that are single bits, by their names (IEEE Std 1149.1-2001, Annex B.8.3).
use Rattle.std.specs.Prelude.{ℕ, Bool, true, false, if◌then◌else◌, List, [], ◌∷◌, Option, Some, None, is_none}
use Rattle.std.specs.Option.{option_or}
use Rattle.std.specs.Prelude.{bytes_eq}
use Rattle.std.specs.List.{find}
use Rattle.std.specs.BTreeMap.{BTreeMap, get_by_text}
use Rattle.std.proofs.Common.{String, Global}
use Rattle.bsdl_text.specs.Words.{same_name, upper}
use Rattle.bsdl_entity.specs.Ports.{Port, Range}

-- what the first port of a name has as its range, if there is one
abbrev pub range_of : Option Port → Option (Option Range)
range_of None = None
range_of (Some p) = Some p.range

abbrev pub is_single : Option (Option Range) → Bool
is_single (Some None) = true
is_single _ = false

-- a declared port that is a single bit
abbrev pub is_scalar : List Port → List ℕ → Bool
is_scalar ps name = is_single (range_of (find (λ p. same_name p.name.text name) ps))

-- ---- the same by what is kept of the ports

abbrev pub scalar_at : List ℕ → Bool → List ℕ → Option Bool
scalar_at name scalar q = if bytes_eq name q then Some scalar else None

-- whether the first port of a name, in upper case, is a single bit
abbrev pub first_scalar : List Port → List ℕ → Option Bool
first_scalar [] q = None
first_scalar (p ∷ ps) q = option_or (scalar_at (upper p.name.text) (is_none p.range) q) (first_scalar ps q)

abbrev pub is_true : Option Bool → Bool
is_true (Some true) = true
is_true (Some false) = false
is_true None = false

-- the test of a name by what is kept of the ports
abbrev pub tells : BTreeMap (String Global) Bool → List ℕ → Bool
tells m name = is_true (get_by_text m (upper name))
