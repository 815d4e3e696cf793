use Rattle.std.proofs.Common.{◌≡◌, drop}
use Rattle.std.specs.List.{find}
use Rattle.bsdl_device.specs.Opcodes.{names_it}
use Rattle.chip_instructions.proofs.decoding.row_of.Given as goal

abbrev pub invariant-loop-row : goal.invariant-loop-row
invariant-loop-row l = find (names_it l.latch) l.rows ≡ find (names_it l.latch) (drop l.row-index l.rows)
