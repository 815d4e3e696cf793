use Rattle.std.proofs.Common.{◌≡◌, ◌<◌, ◌+◌, ◌||◌, Bool, false, List, length, take, get_or, sym, subst, ap, ◌∙◌, arith}
use Rattle.std.specs.List.{list_any}
use Rattle.std.specs.Option.{option_or}
use Rattle.std.proofs.lemmas.List.Folds.{list_any_more}
use Rattle.bsdl_device.specs.Device.{Pattern}
use Rattle.bsdl_device.specs.Opcodes.{matches}
use Rattle.chip_instructions.specs.OpcodeTable.{IsRising, row_in}
use Rattle.chip_instructions.specs.declared.opcode_table.OpcodeTable.{OpcodeTable}
use Rattle.chip_instructions.proofs.DecodeLaws.{matches_length}
use Rattle.chip_instructions.proofs.TableLaws.{last_row, named_less, named_more, row_if}
use Rattle.chip_instructions.proofs.opcode_table.OpcodeTable.add_row.Goals as goal
use Rattle.chip_instructions.proofs.opcode_table.OpcodeTable.add_row.Goals.{then-bits-code_length+in_ok-add, else-bits-code_length}

pub loop-pattern-preserved : goal.loop-pattern-preserved
loop-pattern-preserved c =
    let ps = c.args.row.now.patterns in
    let i = c.loop-pattern.pattern-index in
    let p = c.pattern-item.result in
    let n = c.args.number in
    let inside : i < length ps = omega (arith, c.loop-pattern-test.true, ap length c.patterns-pattern-items.ensures) in
    let at : p ≡ get_or ps i p = c.pattern-item.is ∙ ap (λ (l : List Pattern). get_or l i p) c.patterns-pattern-items.ensures in
    let more : (code : List Bool) → (list_any (λ q. matches q code) (take i ps) || matches p code) ≡ list_any (λ q. matches q code) (take (i + 1) ps) =
    λ code. ap (λ (q : Pattern). list_any (λ r. matches r code) (take i ps) || matches q code) at ∙ sym (list_any_more (λ (q : Pattern). matches q code) ps i p inside) in
    elim c.if-bits-code_length.branch [
      | then-bits-code_length+in_ok-add w ↦ record {
        rising = subst (λ (t : OpcodeTable). IsRising 0 t.with_x.items n) (sym w.self-is) w.in_ok-add.ensures.rising;
        found = λ code long.
            ap (λ (t : OpcodeTable). row_in t code) w.self-is
            ∙ w.in_ok-add.ensures.found code (last_row (row_in c.args.self.now code) (row_in c.loop-pattern.self code) (list_any (λ q. matches q code) (take i ps)) n (c.requires.last code long) (c.loop-pattern.invariant.found code long))
            ∙ ap (λ o. option_or o (row_if (matches p code) n)) (c.loop-pattern.invariant.found code long)
            ∙ named_more (row_in c.args.self.now code) (list_any (λ q. matches q code) (take i ps)) (matches p code) n
            ∙ ap (λ (b : Bool). option_or (row_in c.args.self.now code) (row_if b n)) (more code);
      }
      | else-bits-code_length w ↦ record {
        rising = subst (λ (t : OpcodeTable). IsRising 0 t.with_x.items n) (sym w.self-is) c.loop-pattern.invariant.rising;
        found = λ code long.
            let none : matches p code ≡ false = matches_length p code (λ e. w.if-bits-code_length.false (omega (arith, e, long, ap length c.bits.ensures))) in
            ap (λ (t : OpcodeTable). row_in t code) w.self-is
            ∙ c.loop-pattern.invariant.found code long
            ∙ named_less (row_in c.args.self.now code) (list_any (λ q. matches q code) (take i ps)) n
            ∙ ap (λ (b : Bool). option_or (row_in c.args.self.now code) (row_if (list_any (λ q. matches q code) (take i ps) || b) n)) (sym none)
            ∙ ap (λ (b : Bool). option_or (row_in c.args.self.now code) (row_if b n)) (more code);
      }
    ]
