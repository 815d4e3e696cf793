use Rattle.std.proofs.Common.{◌≡◌, map, take}
use Rattle.bsdl_values.specs.InstructionView.{private_name}
use Rattle.bsdl_opcodes.proofs.patterns.private_names_of.Given as goal

abbrev pub invariant-loop-private : goal.invariant-loop-private
invariant-loop-private l = l.all ≡ map private_name (take l.private-index l.names)
