use Rattle.std.proofs.Common.{◌≡◌, ◌≤◌, ◌<◌, ℕ, List, Some, None, length, get_or, drop, sym, ap, ◌∙◌, arith}
use Rattle.bsdl_device.specs.Opcodes.{matches}
use Rattle.chip_instructions.specs.OpcodeTable.{first_of, row_with_x}
use Rattle.chip_instructions.specs.declared.opcode_table.WithX.{WithX}
use Rattle.chip_instructions.proofs.TableLaws.{least_row, rising_at, exact_first, x_first, no_x, row_here, row_passed, none_left, same_row}
use Rattle.chip_instructions.proofs.opcode_table.OpcodeTable.row.Goals as goal
use Rattle.chip_instructions.proofs.opcode_table.OpcodeTable.row.Goals.{in-Some+else-row-opcode, in_default}

pub returns-then-row-opcode : goal.returns-then-row-opcode
returns-then-row-opcode c =
    let xs = c.args.self.now.with_x.items in
    let code = c.args.code.now in
    let i = c.loop-opcode.opcode-index in
    let x = c.opcode-item.result in
    let inside : i < length xs = omega (arith, c.loop-opcode-test.true, ap length c.deref-opcode-items.ensures.value) in
    let at : x ≡ get_or xs i x = c.opcode-item.is ∙ ap (λ (l : List WithX). get_or l i x) c.deref-opcode-items.ensures.value in
    exact_first c.in-Some.row (row_with_x xs code)
    (λ r e. omega (arith, c.if-row-opcode.true, ap (λ (o : WithX). o.row) at, least_row (get_or xs i x).row (drop i xs) c.requires.0 code (rising_at 0 xs c.requires.0 i x c.requires.1 inside) r (sym c.loop-opcode.invariant.passed ∙ e)))
    ∙ ap (λ o. first_of o (row_with_x xs code)) (sym c.in-Some.is ∙ c.loop-opcode.invariant.exact)

pub returns-then-is_opcode : goal.returns-then-is_opcode
returns-then-is_opcode c =
    let xs = c.args.self.now.with_x.items in
    let code = c.args.code.now in
    let i = c.loop-opcode.opcode-index in
    let x = c.opcode-item.result in
    let inside : i < length xs = omega (arith, c.loop-opcode-test.true, ap length c.deref-opcode-items.ensures.value) in
    let at : x ≡ get_or xs i x = c.opcode-item.is ∙ ap (λ (l : List WithX). get_or l i x) c.deref-opcode-items.ensures.value in
    let found : row_with_x xs code ≡ Some x.row =
    c.loop-opcode.invariant.passed ∙ row_here xs i x code inside (ap (λ (o : WithX). matches o.pattern code) (sym at) ∙ sym c.is_opcode.ensures ∙ c.if-is_opcode.true) ∙ ap (λ (o : WithX). Some o.row) (sym at) in
    x_first _ x.row
    (λ r e. elim c.match-exact.branch [
      | in-Some+else-row-opcode w ↦ omega (arith, w.if-row-opcode.false, same_row _ _ (sym w.in-Some.is ∙ c.loop-opcode.invariant.exact ∙ e))
      | in_default w ↦ absurd (none_some r (sym w.in_default.is ∙ c.loop-opcode.invariant.exact ∙ e))
    ])
    ∙ ap (first_of _) (sym found)
  where
    none_some : (r : ℕ) → None ≡ Some r → ⊥
    none_some r e = cc

pub loop-opcode-preserved : goal.loop-opcode-preserved
loop-opcode-preserved c =
    let xs = c.args.self.now.with_x.items in
    let code = c.args.code.now in
    let i = c.loop-opcode.opcode-index in
    let x = c.opcode-item.result in
    let inside : i < length xs = omega (arith, c.loop-opcode-test.true, ap length c.deref-opcode-items.ensures.value) in
    let at : x ≡ get_or xs i x = c.opcode-item.is ∙ ap (λ (l : List WithX). get_or l i x) c.deref-opcode-items.ensures.value in
    record {
      exact = elim c.match-exact.branch [
        | in-Some+else-row-opcode w ↦ w.exact-is ∙ sym w.in-Some.is ∙ c.loop-opcode.invariant.exact
        | in_default w ↦ w.exact-is ∙ c.loop-opcode.invariant.exact
      ];
      passed = c.loop-opcode.invariant.passed ∙ row_passed xs i x code inside (ap (λ (o : WithX). matches o.pattern code) (sym at) ∙ sym c.is_opcode.ensures ∙ c.if-is_opcode.false);
    }

pub returns : goal.returns
returns c =
    let xs = c.args.self.now.with_x.items in
    let code = c.args.code.now in
    let i = c.loop-opcode.opcode-index in
    let left : length xs ≤ i = omega (arith, c.loop-opcode-test.false, ap length c.deref-opcode-items.ensures.value) in
    c.loop-opcode.invariant.exact ∙ no_x _ ∙ ap (first_of _) (sym (c.loop-opcode.invariant.passed ∙ none_left xs i code left))
