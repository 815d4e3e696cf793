use Rattle.std.proofs.Common.{◌≡◌, ℕ, take}
use Rattle.std.specs.BTreeSet.{contains_by}
use Rattle.std.specs.List.{list_any}
use Rattle.std.specs.Ordering.{nat_cmp}
use Rattle.board_chips.specs.Strings.{puts}
use Rattle.board_chips.proofs.driving.pins_of_strings.Given as goal

abbrev pub invariant-loop-string : goal.invariant-loop-string
invariant-loop-string l = (k : ℕ) → contains_by (nat_cmp k) l.taken ≡ list_any (puts k) (take l.string-index l.strings)
