use Rattle.std.proofs.Common.{◌≡◌, ◌<◌, length, get_or, sym, ap, ◌∙◌, arith}
use Rattle.std.specs.BTreeSet.{contains_by}
use Rattle.name_keys.specs.Keys.{key_order}
use Rattle.bsdl_values.specs.declared.instructions.names.Instr as declared_instr
use Rattle.bsdl_values.specs.InstructionValues.{Instr}
use Rattle.bsdl_values.specs.InstructionView.{instr}
use Rattle.bsdl_opcodes.specs.NameSets.{is_own_by}
use Rattle.bsdl_opcodes.proofs.OwnLaws.{front_kept, front_passed}
use Rattle.bsdl_opcodes.proofs.own.move_own.Goals.{then-is_own, else-is_own}
use Rattle.bsdl_opcodes.proofs.own.move_own.Goals as goal

pub loop-k-preserved : goal.loop-k-preserved
loop-k-preserved c =
    let old = c.args.instrs.now in
    let now = c.loop-k.instrs in
    let k = c.loop-k.k in
    let x = get_or now k c.index-instrs-k.result in
    let f = c.loop-k.invariant in
    let test = λ (i : Instr). is_own_by (λ q. contains_by (key_order q) c.args.with_opcode.now) (λ q. contains_by (key_order q) c.args.private.now) i.name.text in
    let within : k < length now = omega (arith, c.loop-k-test.true, f.long, c.loop-k.auto.k-end) in
    let here : get_or now k x ≡ x = ap (λ (d : declared_instr.Instr). get_or now k d) (sym c.index-instrs-k.is) in
    elim c.if-is_own.branch [
      | then-is_own w ↦
          rw (w.instrs-is, w.swap.ensures.after, w.kept-is)
          (front_kept instr test old now c.loop-k.kept k x f within here (sym c.is_own.ensures ∙ w.if-is_own.true))
      | else-is_own w ↦
          rw (w.instrs-is, w.kept-is)
          (front_passed instr test old now c.loop-k.kept k x f within here (sym c.is_own.ensures ∙ w.if-is_own.false))
    ]
