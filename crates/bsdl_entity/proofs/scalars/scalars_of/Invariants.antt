use Rattle.std.proofs.Common.{◌≡◌, ℕ, List, take}
use Rattle.std.specs.BTreeMap.{get_by_text}
use Rattle.bsdl_entity.specs.Scalars.{first_scalar}
use Rattle.bsdl_entity.specs.PortsView.{ports}
use Rattle.bsdl_entity.proofs.scalars.scalars_of.Given as goal

abbrev pub invariant-loop-group : goal.invariant-loop-group
invariant-loop-group l = (q : List ℕ) → get_by_text l.scalars q ≡ first_scalar (ports (take l.group-index l.groups)) q
