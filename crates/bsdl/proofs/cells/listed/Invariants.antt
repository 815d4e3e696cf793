use Rattle.std.proofs.Common.{◌≡◌, ◌++◌, ◌-◌}
use Rattle.std.specs.Prelude.{option_to_list}
use Rattle.std.specs.BTreeMap.{get}
use Rattle.std.specs.List.{flat_map, range_with_len}
use Rattle.std.specs.Ordering.{nat_cmp}
use Rattle.bsdl.proofs.cells.listed.Given as goal

abbrev pub invariant-loop-number : goal.invariant-loop-number
invariant-loop-number l =
    l.cells.items ++ flat_map (λ k. option_to_list (get nat_cmp l.table k)) (range_with_len l.number (l.len - l.number)) ≡ flat_map (λ k. option_to_list (get nat_cmp l.table k)) (range_with_len 0 l.len)
