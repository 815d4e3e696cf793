use Rattle.std.proofs.Common.{◌≡◌, ℕ, List, nat_eq, map, take}
use Rattle.std.specs.Prelude.{filter}
use Rattle.std.specs.BTreeMap.{get}
use Rattle.std.specs.Ordering.{nat_cmp}
use Rattle.bsdl_values.specs.CellView.{cell_row}
use Rattle.bsdl_entity.specs.Ports.{Port}
use Rattle.bsdl_lookup.specs.Keyed.{AreKeyed}
use Rattle.bsdl.specs.Bits.{firsts, last_of}
use Rattle.bsdl.specs.Boundary.{cell}
use Rattle.bsdl.proofs.cells.table_of.Given as goal

abbrev pub invariant-loop-row : goal.invariant-loop-row
invariant-loop-row l =
    (ps : List Port) → AreKeyed l.keyed ps → l.bits ≡ firsts 0 ps → (n : ℕ)
    → get nat_cmp l.table n ≡ last_of (map (cell ps) (filter (λ r. nat_eq r.number n) (map cell_row (take l.row-index l.rows))))
