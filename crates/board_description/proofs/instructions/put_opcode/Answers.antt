use Rattle.std.proofs.Common.{◌++◌, ℕ, List, codes, ap, ◌∙◌}
use Rattle.board_description.specs.Described.{pattern_digits}
use Rattle.board_description.proofs.TextLaws.{OnOk-behind, OnOk-is}
use Rattle.board_description.proofs.instructions.put_opcode.Goals as goal

pub returns : goal.returns
returns c =
    let text = c.args.text.now.items in
    let new = c.put-2.new.text.items in
    let r = c.put-2.result in
    let front = c.as_bytes.result.now ++ (codes " instruction " ++ (c.as_bytes-2.result.now ++ codes " ")) in
    let digits = pattern_digits c.args.pattern.now in
    let end = digits ++ codes " register " in
    OnOk-is new (text ++ (front ++ end)) (text ++ ((c.args.device.now ++ (codes " instruction " ++ (c.args.name.now ++ codes " "))) ++ end)) r
    (OnOk-behind text front end c.put.new.text.items new r c.in_ok-put.ensures
    (OnOk-behind c.put.new.text.items digits (codes " register ") c.put_pattern.new.text.items new r c.in_ok-put_pattern.ensures c.put-2.ensures))
    (ap (λ (d : List ℕ). text ++ ((d ++ (codes " instruction " ++ (c.as_bytes-2.result.now ++ codes " "))) ++ end)) c.as_bytes.ensures.value
    ∙ ap (λ (n : List ℕ). text ++ ((c.args.device.now ++ (codes " instruction " ++ (n ++ codes " "))) ++ end)) c.as_bytes-2.ensures.value)
