use Rattle.std.proofs.Common.{◌≡◌, ◌++◌, map, take}
use Rattle.bsdl_values.specs.InstructionView.{instr}
use Rattle.bsdl_opcodes.specs.Accesses.{access}
use Rattle.bsdl_opcodes.proofs.accesses.add_row.Given as goal

abbrev pub invariant-loop-instr : goal.invariant-loop-instr
invariant-loop-instr l = l.accesses.items ≡ l.initial.accesses.items ++ map (access l.place l.is_own) (map instr (take l.instr-index l.row.instrs.items))
