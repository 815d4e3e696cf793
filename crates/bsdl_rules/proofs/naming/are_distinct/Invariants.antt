use Rattle.std.proofs.Common.{◌≡◌, ℕ, false, List, map, take}
use Rattle.std.specs.Prelude.{Option}
use Rattle.std.specs.BTreeSet.{contains_by}
use Rattle.name_keys.specs.Keys.{key_order}
use Rattle.bsdl_rules.specs.Positions.{has_repeated, is_named}
use Rattle.bsdl_rules.specs.NamingView.{named}
use Rattle.bsdl_rules.proofs.naming.are_distinct.Given as goal

abbrev pub invariant-loop-name : goal.invariant-loop-name
invariant-loop-name l =
    (quote : Option ℕ)
    → ((q : List ℕ) → contains_by (key_order q) l.known ≡ is_named (map (named quote) (take l.name-index l.names)) q) × (has_repeated (map (named quote) (take l.name-index l.names)) ≡ false)
