use Rattle.std.proofs.Common.{◌≤◌, ◌-◌, length}
use Rattle.boundary.specs.Masks.{inner_cells, sighted_cells}
use Rattle.boundary.specs.Plain.{plain_cells}
use Rattle.boundary.specs.Resets.{reset_cells}
use Rattle.boundary.proofs.MaskLaws.{MaskTo}
use Rattle.boundary.proofs.captures.masks_of.Given as goal

abbrev pub invariant-loop-at : goal.invariant-loop-at
invariant-loop-at l = record {
  within : l.at ≤ length l.list;
  sighted : MaskTo (sighted_cells l.list) l.at l.sighted;
  inner : MaskTo (inner_cells l.list) l.at l.inner;
  plain : MaskTo (plain_cells l.list) l.at l.plain;
  reset : MaskTo (reset_cells l.list) l.at l.reset;
}

abbrev pub decreases-loop-at : goal.decreases-loop-at
decreases-loop-at l = length l.list - l.at
