use Rattle.std.proofs.Common.{◌≡◌, false, take}
use Rattle.std.specs.BTreeSet.{contains_by}
use Rattle.std.specs.List.{Contains}
use Rattle.std.specs.Ordering.{nat_cmp}
use Rattle.board_chips.specs.Blocks.{AreParts}
use Rattle.board_chips.specs.declared.driving.DrivingPin.{DrivingPin}
use Rattle.board_chips.proofs.driving.divide.Given as goal

abbrev pub invariant-loop-it : goal.invariant-loop-it
invariant-loop-it l = record {
  parts : AreParts (take l.it-index l.all) l.close.items l.rest.items;
  apart : (e : DrivingPin) → Contains l.close.items e → contains_by (nat_cmp e.pin) l.taken ≡ false;
}
