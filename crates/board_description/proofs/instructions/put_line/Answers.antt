use Rattle.std.proofs.Common.{◌++◌, ap}
use Rattle.chip_instructions.specs.declared.Selected.{Selected}
use Rattle.board_description.specs.Described.{end_words, opcode_front, register_words}
use Rattle.board_description.proofs.TextLaws.{OnOk-behind, OnOk-is}
use Rattle.board_description.proofs.instructions.put_line.Goals as goal

pub returns : goal.returns
returns c =
    let d = c.args.device.now in
    let text = c.args.text.now.items in
    let new = c.put_end.new.text.items in
    let r = c.put_end.result in
    let front = opcode_front c.args.device_name.now c.args.name.now c.args.pattern.now in
    let middle = register_words d c.selected_by.result in
    let end = end_words d c.args.name.now c.args.played.now in
    OnOk-is new (text ++ (front ++ (middle ++ end))) _ r
    (OnOk-behind text front (middle ++ end) c.put_opcode.new.text.items new r c.in_ok-put_opcode.ensures
    (OnOk-behind c.put_opcode.new.text.items middle end c.put_register.new.text.items new r c.in_ok-put_register.ensures c.put_end.ensures))
    (ap (λ (s : Selected). text ++ (front ++ (register_words d s ++ end))) c.selected_by.ensures)
