use Rattle.std.proofs.Common.{◌≡◌, ℕ, List, take}
use Rattle.std.specs.Option.{option_or}
use Rattle.std.specs.BTreeMap.{get_by_text}
use Rattle.bsdl_entity.proofs.ScalarLaws.{scalar_names}
use Rattle.bsdl_entity.proofs.scalars.add_group.Given as goal

abbrev pub invariant-loop-name : goal.invariant-loop-name
invariant-loop-name l = (q : List ℕ) → get_by_text l.scalars q ≡ option_or (get_by_text l.initial.scalars q) (scalar_names (take l.name-index l.group.names.items) l.is_scalar q)
