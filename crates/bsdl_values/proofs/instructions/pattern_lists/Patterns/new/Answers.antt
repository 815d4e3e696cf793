use Rattle.std.proofs.Common.{ap}
use Rattle.bsdl_values.specs.Parts.{is_closed, parts}
use Rattle.bsdl_values.proofs.instructions.pattern_lists.Patterns.new.Goals as goal

pub invariant_of-result : goal.invariant_of-result
unfolding is_closed
invariant_of-result c = ap is_closed c.new.ensures.items

pub returns : goal.returns
unfolding parts
returns c = ap parts c.new.ensures.items
