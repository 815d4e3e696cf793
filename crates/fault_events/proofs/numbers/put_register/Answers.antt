use Rattle.std.proofs.Common.{◌≡◌, ◌++◌, ℕ, List, map, replicate, Option, None, OnOk, sym, ap, ap₂, subst, ◌∙◌}
use Rattle.bsdl_device.specs.Device.{Device}
use Rattle.boundary.specs.Cells.{takes_update}
use Rattle.chip_instructions.specs.Fitting.{meaning_by}
use Rattle.chip_instructions.specs.Instruction.{Meaning, meaning}
use Rattle.chip_instructions.specs.declared.Selected.{Selected}
use Rattle.board_chips.specs.WiredChips.{member_of}
use Rattle.fault_events.specs.Numbers.{number_of, number_of_cell}
use Rattle.fault_events.specs.Sources.{fixed_bits, member_sources, register_sources}
use Rattle.fault_events.proofs.Numbering.{cell_numbers, fixed_numbers, other_sources}
use Rattle.fault_events.proofs.numbers.put_register.Goals as goal

pub returns-in-Boundary : goal.returns-in-Boundary
returns-in-Boundary c =
    let tables : List (List (Option ℕ)) = map (λ t. t.items) c.args.tables.now in
    let k = c.args.device in
    let m = member_of c.args.chip.now in
    let it : Meaning = meaning_by m.device c.decode-meant.result in
    let means : it ≡ meaning m.device m.registers.latch =
    sym (ap (λ (d : Device). meaning_by d c.decode-meant.result) c.device.ensures) ∙ c.decode-meant.ensures.meaning ∙ ap₂ meaning c.device.ensures c.latch.ensures in
    let taken = ap (λ (x : Meaning). register_sources k x x.selected m) (sym means) ∙ ap (λ (s : Selected). register_sources k it s m) c.in-Boundary.is in
    let cells : c.cells.result.now ≡ m.device.cells = c.cells.ensures ∙ ap (λ (d : Device). d.cells) c.device-in-Boundary.ensures in
    let line : map (number_of_cell tables k) c.cells.result.now ≡ map (number_of tables) (member_sources k m) =
    ap (map (number_of_cell tables k)) cells
    ∙ cell_numbers tables k (takes_update m.extest_update it.mode) m.registers.update m.core 0 m.device.cells
    ∙ sym (ap (map (number_of tables)) taken) in
    subst (λ (l : List (Option ℕ)). OnOk c.put_cells.result (c.put_cells.new.list.items ≡ c.args.list.now.items ++ l)) line c.put_cells.ensures

pub returns-in_default : goal.returns-in_default
returns-in_default c =
    let tables : List (List (Option ℕ)) = map (λ t. t.items) c.args.tables.now in
    let k = c.args.device in
    let m = member_of c.args.chip.now in
    let it : Meaning = meaning_by m.device c.decode-meant.result in
    let means : it ≡ meaning m.device m.registers.latch =
    sym (ap (λ (d : Device). meaning_by d c.decode-meant.result) c.device.ensures) ∙ c.decode-meant.ensures.meaning ∙ ap₂ meaning c.device.ensures c.latch.ensures in
    let taken = ap (λ (x : Meaning). register_sources k x x.selected m) (sym means) ∙ other_sources k it it.selected m c.in_default.not-Boundary in
    let line : replicate c.fixed_len.result None ≡ map (number_of tables) (member_sources k m) =
    ap (λ (n : ℕ). replicate n None) c.fixed_len.ensures
    ∙ fixed_numbers tables (fixed_bits it.selected it.fixed m.registers)
    ∙ sym (ap (map (number_of tables)) taken) in
    subst (λ (l : List (Option ℕ)). OnOk c.put_none.result (c.put_none.new.list.items ≡ c.args.list.now.items ++ l)) line c.put_none.ensures
