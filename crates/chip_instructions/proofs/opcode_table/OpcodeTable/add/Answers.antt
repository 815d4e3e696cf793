use Rattle.std.proofs.Common.{◌≡◌, Bool, List, sym, ap, subst, ◌∙◌, refl}
use Rattle.std.specs.BTreeMap.{get}
use Rattle.std.specs.Option.{option_or}
use Rattle.std.specs.Ordering.{is_eq}
use Rattle.bsdl_device.specs.Order.{bits_order}
use Rattle.bsdl_device.specs.Opcodes.{matches, x_as_0}
use Rattle.chip_instructions.specs.OpcodeTable.{IsRising, first_of, row_with_x}
use Rattle.chip_instructions.specs.declared.opcode_table.WithX.{WithX}
use Rattle.chip_instructions.proofs.TableLaws.{code_more, exact_is, rising_more, row_if, x_behind, x_more}
use Rattle.chip_instructions.proofs.opcode_table.OpcodeTable.add.Goals as goal

pub returns-in_ok-push-clause-rising : goal.returns-in_ok-push-clause-rising
returns-in_ok-push-clause-rising c =
    let xs = c.args.self.now.with_x.items in
    subst (λ (l : List WithX). IsRising 0 l c.args.number) (sym c.in_ok-push.ensures.items) (rising_more 0 xs c.args.number _ c.requires refl)

pub returns-in_ok-push-clause-found : goal.returns-in_ok-push-clause-found
returns-in_ok-push-clause-found c = λ code last.
    let t = c.args.self.now in
    let exact = get bits_order t.by_code code in
    let found = row_with_x t.with_x.items code in
    ap (λ (l : List WithX). first_of exact (row_with_x l code)) c.in_ok-push.ensures.items
    ∙ ap (first_of exact) (x_more t.with_x.items _ code)
    ∙ ap (λ p. first_of exact (option_or found (row_if (matches p code) c.args.number))) c.in_ok-pattern.ensures
    ∙ x_behind exact found (matches c.args.pattern.now code) c.args.number last

pub returns-in_ok-put_first-clause-found : goal.returns-in_ok-put_first-clause-found
returns-in_ok-put_first-clause-found c = λ code last.
    let t = c.args.self.now in
    let key : x_as_0 c.args.pattern.now ≡ c.in_ok-code.code = ap x_as_0 (sym c.bits.ensures) ∙ sym c.in_ok-code.ensures in
    code_more (get bits_order t.by_code) c.in_ok-code.code code (row_with_x t.with_x.items code) (get bits_order c.put_first.new.by_code code) c.args.number (matches c.args.pattern.now code)
    (exact_is c.args.pattern.now code (sym c.has_x.ensures ∙ c.if-has_x.false) ∙ ap (λ (q : List Bool). is_eq (bits_order q code)) key)
    (c.in_ok-put_first.ensures code) last
