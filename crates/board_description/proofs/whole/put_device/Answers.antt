use Rattle.std.proofs.Common.{◌≡◌, ◌++◌, ℕ, Bool, List, codes, ap, ◌∙◌}
use Rattle.std.specs.Fmt.{decimal}
use Rattle.board_description.specs.Described.{code_words, reset_words, yes_or_no}
use Rattle.output_words.specs.Digits.{digits}
use Rattle.output_words.specs.Names.{shown}
use Rattle.board_description.proofs.TextLaws.{OnOk-behind, OnOk-is}
use Rattle.board_description.proofs.whole.put_device.Goals as goal

pub returns : goal.returns
returns c =
    let text = c.args.text.now.items in
    let d = c.args.device.now in
    let new = c.put-3.new.text.items in
    let r = c.put-3.result in
    let file = shown c.args.file.now in
    let reset = reset_words d in
    let code = code_words d.idcode in
    let p1 = c.as_bytes.result.now ++ codes " bsdl " in
    let p3 = codes " length " ++ (c.as_bytes-2.result.now ++ codes " capture ") in
    let p4 = digits c.capture.result.now in
    let p7 = codes " trst " ++ (c.yes_or_no.result.now ++ codes "\n") in
    let s6 = OnOk-behind c.put_reset.new.text.items code p7 c.put_code.new.text.items new r c.in_ok-put_code.ensures c.put-3.ensures in
    let s5 = OnOk-behind c.put_bits.new.text.items reset (code ++ p7) c.put_reset.new.text.items new r c.in_ok-put_reset.ensures s6 in
    let s4 = OnOk-behind c.put-2.new.text.items p4 (reset ++ (code ++ p7)) c.put_bits.new.text.items new r c.in_ok-put_bits.ensures s5 in
    let s3 = OnOk-behind c.put_shown.new.text.items p3 (p4 ++ (reset ++ (code ++ p7))) c.put-2.new.text.items new r c.in_ok-put-2.ensures s4 in
    let s2 = OnOk-behind c.put.new.text.items file (p3 ++ (p4 ++ (reset ++ (code ++ p7)))) c.put_shown.new.text.items new r c.in_ok-put_shown.ensures s3 in
    let s1 = OnOk-behind text p1 (file ++ (p3 ++ (p4 ++ (reset ++ (code ++ p7))))) c.put.new.text.items new r c.in_ok-put.ensures s2 in
    let long : c.as_bytes-2.result.now ≡ decimal d.instruction_length = c.as_bytes-2.ensures.value ∙ c.format.ensures.text ∙ ap decimal c.instruction_length.ensures in
    let trst : c.yes_or_no.result.now ≡ yes_or_no d.has_trst = c.yes_or_no.ensures ∙ ap yes_or_no c.has_trst.ensures in
    OnOk-is new _ _ r s1
    (ap (λ (n : List ℕ). text ++ ((n ++ codes " bsdl ") ++ (file ++ (p3 ++ (p4 ++ (reset ++ (code ++ p7))))))) c.as_bytes.ensures.value
    ∙ ap (λ (n : List ℕ). text ++ ((c.args.name.now ++ codes " bsdl ") ++ (file ++ ((codes " length " ++ (n ++ codes " capture ")) ++ (p4 ++ (reset ++ (code ++ p7))))))) long
    ∙ ap (λ (b : List Bool). text ++ ((c.args.name.now ++ codes " bsdl ") ++ (file ++ ((codes " length " ++ (decimal d.instruction_length ++ codes " capture ")) ++ (digits b ++ (reset ++ (code ++ p7))))))) c.capture.ensures
    ∙ ap (λ (n : List ℕ). text ++ ((c.args.name.now ++ codes " bsdl ") ++ (file ++ ((codes " length " ++ (decimal d.instruction_length ++ codes " capture ")) ++ (digits d.capture ++ (reset ++ (code ++ (codes " trst " ++ (n ++ codes "\n"))))))))) trst)
