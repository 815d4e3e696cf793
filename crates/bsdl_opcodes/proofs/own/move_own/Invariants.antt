use Rattle.std.specs.BTreeSet.{contains_by}
use Rattle.name_keys.specs.Keys.{key_order}
use Rattle.bsdl_values.specs.InstructionView.{instr}
use Rattle.bsdl_opcodes.specs.NameSets.{is_own_by}
use Rattle.bsdl_opcodes.proofs.OwnLaws.{Front}
use Rattle.bsdl_opcodes.proofs.own.move_own.Given as goal

abbrev pub invariant-loop-k : goal.invariant-loop-k
invariant-loop-k l = Front instr (λ i. is_own_by (λ q. contains_by (key_order q) l.with_opcode) (λ q. contains_by (key_order q) l.private) i.name.text) l.initial.instrs l.instrs l.kept l.k
