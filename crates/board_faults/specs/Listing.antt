-- The faults that are left of a list of nets.
use Rattle.std.specs.Prelude.{◌≡◌, ℕ, suc, List, [], ◌∷◌, ◌++◌, length, map, drop}
use Rattle.pin_nets.specs.Wired.{Net}
use Rattle.board_plan.specs.View.{net as planned_net}
use Rattle.board_faults.specs.declared.kinds.Fault.{Fault}
use Rattle.board_faults.specs.declared.listed.Faults.{Faults}
use Rattle.board_faults.specs.Faults.{faults_from, faults_of}

-- of these nets, the first at a place among so many: those of the first from one on, and those of the others
abbrev pub left_in : (count net at : ℕ) → List Net → List Fault
left_in count net at [] = []
left_in count net at (n ∷ ns) = drop at (faults_of count net n) ++ faults_from count (suc net) ns

abbrev pub left : List Net → (net at : ℕ) → List Fault
left nets net at = left_in (length nets) net at (drop net nets)

abbrev pub left_of : Faults → List Fault
left_of f = left (map planned_net f.nets.now) f.net f.at

-- the first of these, and the others; none only where there are none
pub record AreNext (left first rest : List Fault) : Type 0 where
  pub are : left ≡ first ++ rest
  pub over : first ≡ [] → left ≡ []
