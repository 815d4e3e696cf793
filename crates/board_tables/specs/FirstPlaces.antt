-- Trees that have the first place of each key of a list, and lists that have each text once.
use Rattle.std.specs.Prelude.{◌≡◌, ℕ, List, [], ◌∷◌, ◌++◌, position, bytes_eq, if◌then◌else◌}
use Rattle.std.specs.List.{list_any}
use Rattle.std.specs.BTreeMap.{BTreeMap, get, is_at}
use Rattle.std.specs.declared.cmp.Ordering.{Ordering}

-- at each key the tree has the place at which the list first has it
abbrev pub AreFirst : {K : Type 0} → (K → K → Ordering) → BTreeMap K ℕ → List K → Type 0
AreFirst {K} cmp m ks = (q : K) → get cmp m q ≡ position (is_at (cmp q)) ks

-- texts, each once, with one more
abbrev pub with_name : List (List ℕ) → List ℕ → List (List ℕ)
with_name names name = if list_any (bytes_eq name) names then names else names ++ name ∷ []
