use Rattle.std.proofs.Common.{◌≡◌, map, drop}
use Rattle.std.specs.List.{list_all}
use Rattle.bsdl_values.specs.InstructionView.{instr}
use Rattle.bsdl_rules.specs.Sizes.{captures_are}
use Rattle.bsdl_rules.proofs.lengths.captures_fit.Given as goal

abbrev pub invariant-loop-instr : goal.invariant-loop-instr
invariant-loop-instr l = list_all (captures_are l.size) (map instr (drop l.instr-index l.instrs)) ≡ list_all (captures_are l.size) (map instr l.instrs)
