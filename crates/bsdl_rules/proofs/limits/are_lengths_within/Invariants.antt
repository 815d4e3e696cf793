use Rattle.std.proofs.Common.{◌≡◌, map, drop}
use Rattle.std.specs.Prelude.{nat_le}
use Rattle.std.specs.List.{list_all}
use Rattle.jt_limits.specs.Limits.{limits}
use Rattle.bsdl_text.specs.NumberView.{value}
use Rattle.bsdl_rules.proofs.limits.are_lengths_within.Given as goal

abbrev pub invariant-loop-length : goal.invariant-loop-length
invariant-loop-length l = list_all (λ n. nat_le n limits.user_bits) (map value (drop l.length-index l.lengths)) ≡ list_all (λ n. nat_le n limits.user_bits) (map value l.lengths)
