use Rattle.std.proofs.Common.{length}
use Rattle.boundary.proofs.ToldLaws.{none_told}
use Rattle.boundary.proofs.sights.Sights.none.Goals as goal

pub returns : goal.returns
returns c = none_told (length c.args.cells.now) c.in_ok-from_elem.field-0.items (c.in_ok-from_elem.ensures.items_if_clones_equal (λ y e. e))
