use Rattle.std.proofs.Common.{◌≡◌, map, take}
use Rattle.bsdl_text.specs.NumberView.{value}
use Rattle.bsdl.proofs.device.lengths_of.Given as goal

abbrev pub invariant-loop-length : goal.invariant-loop-length
invariant-loop-length l = l.all.items ≡ map value (take l.length-index l.lengths)
