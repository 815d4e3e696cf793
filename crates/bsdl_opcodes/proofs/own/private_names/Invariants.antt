use Rattle.std.proofs.Common.{◌≡◌, ℕ, List, map, take}
use Rattle.std.specs.BTreeSet.{contains_by}
use Rattle.name_keys.specs.Keys.{key_order}
use Rattle.bsdl_values.specs.InstructionView.{private_name}
use Rattle.bsdl_opcodes.specs.NameSets.{private_named}
use Rattle.bsdl_opcodes.proofs.own.private_names.Given as goal

abbrev pub invariant-loop-found : goal.invariant-loop-found
invariant-loop-found l = (q : List ℕ) → contains_by (key_order q) l.private ≡ private_named (map private_name (take l.found-index l.names)) q
