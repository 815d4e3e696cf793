use Rattle.std.proofs.Common.{◌≡◌, drop}
use Rattle.bsdl_description.specs.FirstView.{kept}
use Rattle.bsdl_description.proofs.first_values.value_of.Given as goal

abbrev pub invariant-loop-first : goal.invariant-loop-first
invariant-loop-first l = kept l.firsts l.attribute ≡ kept (drop l.first-index l.firsts) l.attribute
