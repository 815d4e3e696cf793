use Rattle.std.proofs.Common.{◌*◌}
use Rattle.scan_registers.proofs.SameLaws.{SameBelow}
use Rattle.scan_registers.proofs.same.same_bits.Given as goal

abbrev pub invariant-loop-k : goal.invariant-loop-k
invariant-loop-k l = SameBelow (64 * l.k) l.one l.other
