use Rattle.std.proofs.Common.{◌≡◌, ℕ, List, map, take}
use Rattle.std.specs.BTreeMap.{get}
use Rattle.name_keys.specs.Keys.{key_order}
use Rattle.bsdl_rules.specs.declared.naming.Position.{Position}
use Rattle.bsdl_rules.specs.Positions.{begins_before, is_named_before}
use Rattle.bsdl_rules.specs.NamingView.{named}
use Rattle.bsdl_rules.proofs.naming.first_positions.Given as goal

abbrev pub invariant-loop-name : goal.invariant-loop-name
invariant-loop-name l = (q : List ℕ) (s : Position) → begins_before (get key_order l.positions q) s ≡ is_named_before (map (named l.quote) (take l.name-index l.names)) q s
