use Rattle.std.proofs.Common.{◌≡◌, drop, map}
use Rattle.chip_instructions.specs.Instruction.{look_up, access_meaning}
use Rattle.chip_instructions.proofs.decoding.own.Given as goal

abbrev pub invariant-loop-k : goal.invariant-loop-k
invariant-loop-k l = look_up l.name (map (access_meaning l.device) l.device.accesses) ≡ look_up l.name (map (access_meaning l.device) (drop l.k l.device.accesses))
