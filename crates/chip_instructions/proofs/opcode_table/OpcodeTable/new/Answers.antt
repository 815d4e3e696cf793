use Rattle.std.proofs.Common.{◌≡◌, ◌<◌, ◌+◌, ℕ, [], ◌∷◌, ◌++◌, length, take, sym, ap, ◌∙◌, arith}
use Rattle.std.specs.List.{position}
use Rattle.std.specs.Option.{option_or}
use Rattle.std.proofs.lemmas.List.{take_more, length-take}
use Rattle.bsdl_device.specs.Device.{Opcode}
use Rattle.bsdl_device.specs.Opcodes.{names_it}
use Rattle.chip_instructions.proofs.TableLaws.{position_more, rising_later, row_if}
use Rattle.chip_instructions.proofs.opcode_table.OpcodeTable.new.Goals as goal

pub loop-number-preserved : goal.loop-number-preserved
loop-number-preserved c =
    let rows = c.args.rows.now in
    let i = c.loop-number.number in
    let o = c.index-rows-number.result in
    let inside : i < length rows = omega (arith, c.loop-number-test.true) in
    let long : length (take i rows) ≡ i = omega (arith, length-take i rows, inside) in
    record {
      rising = rising_later 0 c.add_row.new.self.with_x.items i (i + 1) c.in_ok-add_row.ensures.rising (omega arith);
      found = λ code is.
          c.in_ok-add_row.ensures.found code is
          ∙ ap (λ before. option_or before (row_if (names_it code o) i)) (c.loop-number.invariant.found code is)
          ∙ ap (λ (n : ℕ). option_or (position (names_it code) (take i rows)) (row_if (names_it code o) n)) (sym long)
          ∙ sym (position_more (names_it code) (take i rows) o)
          ∙ ap (λ (x : Opcode). position (names_it code) (take i rows ++ x ∷ [])) c.index-rows-number.is
          ∙ ap (position (names_it code)) (sym (take_more rows i o inside));
    }
