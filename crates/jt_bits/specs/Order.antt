-- The order of lists of bits as keys.
use Rattle.std.specs.Prelude.{Bool, List, length}
use Rattle.std.specs.Cmp.Lexicographic.{slice_cmp}
use Rattle.std.specs.Ordering.{bool_cmp, nat_cmp, ordering_then}
use Rattle.std.specs.declared.cmp.Ordering.{Ordering}

-- shorter lists first, and those of one length by their first bits that differ, 0 before 1
unfoldable pub bits_order : List Bool → List Bool → Ordering
bits_order p q = ordering_then (nat_cmp (length p) (length q)) (slice_cmp bool_cmp p q)
